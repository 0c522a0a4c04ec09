-- `num::whole::cut` meets its contract. Assumes nothing.
use mathlib.Core.Path.{◌≡◌, sym, ◌∙◌, subst}
use Prim.Native.Nat.{ℕ, ◌≤◌}
use lib.Ieee.{Float}
use Rattle.num.specs.Steps.{cut_of}
use Rattle.num.specs.Laws.Bounds.{cut-le}
use Rattle.num.proofs.whole.cut.Goals as goal

bounded : (x : Float) (r : ℕ) → r ≡ cut_of x → (r ≡ cut_of x) × (r ≤ 1023)
bounded x r e = (e, subst (λ (n : ℕ). n ≤ 1023) (sym e) (cut-le x))

pub floor-requires : goal.floor-requires
floor-requires c = c.to_1023.ensures.0

pub returns : goal.returns
returns c = let b = bounded c.args.x c.floor.result (c.floor.ensures ∙ c.to_1023.ensures.1) in record { value = b.0; upper_bound = b.1 }
