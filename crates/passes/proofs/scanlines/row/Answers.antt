-- `passes::scanlines::row` meets its contract: an even row stays, and each word of an odd one is dimmed. Assumes nothing.
use Rattle.std.proofs.Common.{◌≡◌, ℕ, zero, suc, sym, refl, ◌∙◌, arith}
use lib.Ieee.{Float}
use Rattle.num.specs.Const.{c1_0}
use Rattle.num.specs.F32.{◌⊖◌}
use Rattle.num.specs.Laws.Rewrite.{none, more, rewrite_same}
use Rattle.passes.specs as Text
use Rattle.passes.specs.Plain.Scanlines.{in_row}
use Rattle.passes.specs.Plain.Pixel.{dim}
use Rattle.passes.proofs.scanlines.row.Goals as goal

even : (n : ℕ) (s : Float) (p : ℕ) → n ≡ 0 → in_row n s p ≡ p
unfolding Text.Scanlines.in_row
even n s p e = rw e

odd : (n : ℕ) (s : Float) (p : ℕ) → (n ≡ 0 → ⊥) → dim (c1_0 ⊖ s) p ≡ in_row n s p
unfolding Text.Scanlines.in_row
odd zero s p h = absurd (h refl)
odd (suc n) s p h = refl

pub returns-then-y-eq0 : goal.returns-then-y-eq0
returns-then-y-eq0 c = sym (rewrite_same _ _ _ (λ k p l. even _ _ p c.if-y-eq0.true))

pub loop-word-init : goal.loop-word-init
loop-word-init c = none _ _

pub loop-word-preserved : goal.loop-word-preserved
loop-word-preserved c = more c.loop-word.invariant 0 (omega arith) (c.dim.ensures ∙ odd _ _ _ c.if-y-eq0.false)
