-- `bridge::calls::hedgemallow_write` meets its contract: no state, or what the writing answers. Assumes nothing.
use Rattle.std.proofs.Common.{ℕ, Result}
use Rattle.num.specs.declared.refusal.Refusal.{Refusal}
use Rattle.cards.specs.Answers.{told, written}
use native.Mathlib.Omega.{arith}
use mathlib.Core.Path.{ap, sym, ◌∙◌}
use Rattle.bridge.proofs.Laid.{card-short}
use Rattle.bridge.proofs.Replies.{read, unread, write_none, write_some}
use Rattle.bridge.proofs.calls.hedgemallow_write.Goals as goal

pub returns-in_default : goal.returns-in_default
returns-in_default c = write_none _ _ _ (unread _ c.decode.result c.decode.ensures _ c.in_default.is) c.refusal.ensures

pub overflow_cast-result : goal.overflow_cast-result
overflow_cast-result c = record { fits = omega (arith, card-short _ _ c.write.result _ c.write.ensures.0 c.in-Ok-write.is) }

pub returns-in-Ok-write : goal.returns-in-Ok-write
returns-in-Ok-write c = write_some _ _ _ _ c.write.result _ (read _ c.decode.result c.decode.ensures _ c.in-Ok.is) c.write.ensures.0
    c.write.ensures.1 (ap (λ (r : Result ℕ Refusal). told (written r c.in-Ok.station).answer) (sym c.in-Ok-write.is))

pub returns-in-Err : goal.returns-in-Err
returns-in-Err c = write_some _ _ _ _ c.write.result _ (read _ c.decode.result c.decode.ensures _ c.in-Ok.is) c.write.ensures.0
    c.write.ensures.1 (c.refusal-in-Err.ensures ∙ ap (λ (r : Result ℕ Refusal). told (written r c.in-Ok.station).answer) (sym c.in-Err.is))
