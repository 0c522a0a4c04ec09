-- `passes::crt::beam` meets its contract: an arm for the middle row. Assumes nothing.
use Rattle.std.proofs.Common.{◌≡◌, ℕ, zero, suc, refl, arith}
use lib.Ieee.{Float}
use Rattle.num.specs.Const.{c0_12, c1_0}
use Rattle.num.specs.F32.{◌⊖◌, ◌⊗◌}
use Rattle.passes.specs as Text
use Rattle.passes.specs.Plain.Crt.{beam}
use Rattle.passes.proofs.crt.beam.Goals as goal

shaded : (n : ℕ) (s : Float) → (n ≡ 1 → ⊥) → c1_0 ⊖ c0_12 ⊗ s ≡ beam n s
unfolding Text.Crt.beam
shaded zero s h = refl
shaded (suc zero) s h = absurd (h refl)
shaded (suc (suc n)) s h = refl

pub returns-in-1 : goal.returns-in-1
unfolding Text.Crt.beam
returns-in-1 c = rw c.in-1.is

pub returns-in_default : goal.returns-in_default
returns-in_default c = shaded _ _ (λ e. omega arith)
