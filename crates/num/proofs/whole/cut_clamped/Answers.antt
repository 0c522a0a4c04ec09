-- `num::whole::cut_clamped` meets its contract. Assumes nothing.
use mathlib.Core.Path.{◌≡◌, sym, ◌∙◌, subst}
use Prim.Native.Nat.{ℕ, ◌≤◌}
use lib.Ieee.{Float}
use Rattle.num.specs.Const.{c0_0, c255_0}
use Rattle.num.specs.Steps.{clamp_of, cut_of}
use Rattle.num.specs.Laws.Bounds.{clamp_cut, top_is}
use Rattle.num.proofs.whole.cut_clamped.Goals as goal

bounded : (x : Float) (r : ℕ) → r ≡ cut_of (clamp_of x c0_0 c255_0) → (r ≡ cut_of (clamp_of x c0_0 c255_0)) × (r ≤ 255)
bounded x r e = (e, subst (λ (n : ℕ). n ≤ 255) (sym e) (clamp_cut 255 x c255_0 top_is))

pub floor-requires : goal.floor-requires
floor-requires c = c.to_255.ensures.0

pub returns : goal.returns
returns c = let b = bounded c.args.x c.floor.result (c.floor.ensures ∙ c.to_255.ensures.1) in record { value = b.0; upper_bound = b.1 }
