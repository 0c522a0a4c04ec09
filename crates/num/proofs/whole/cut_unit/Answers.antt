-- `num::whole::cut_unit` meets its contract. Assumes nothing.
use mathlib.Core.Path.{◌≡◌, sym, ◌∙◌, subst}
use Prim.Native.Nat.{ℕ, ◌≤◌}
use lib.Ieee.{Float}
use Rattle.num.specs.Const.{c0_0, c1_0, c255_0}
use Rattle.num.specs.F32.{◌⊗◌}
use Rattle.num.specs.Steps.{clamp_of, cut_of}
use Rattle.num.specs.Laws.Bounds.{unit-cut}
use Rattle.num.proofs.whole.cut_unit.Goals as goal

bounded : (x : Float) (r : ℕ) → r ≡ cut_of (clamp_of x c0_0 c1_0 ⊗ c255_0) → (r ≡ cut_of (clamp_of x c0_0 c1_0 ⊗ c255_0)) × (r ≤ 255)
bounded x r e = (e, subst (λ (n : ℕ). n ≤ 255) (sym e) (unit-cut x))

pub floor-requires : goal.floor-requires
floor-requires c = c.unit_to_255.ensures.0

pub returns : goal.returns
returns c = let b = bounded c.args.x c.floor.result (c.floor.ensures ∙ c.unit_to_255.ensures.1) in record { value = b.0; upper_bound = b.1 }
