-- `bridge::calls::hedgemallow_preset` meets its contract: no state, or the call's answer. Assumes nothing.
use mathlib.Core.Path.{ap, sym, ◌∙◌}
use Rattle.cards.specs.Answers.{told}
use Rattle.chain.specs.Answers.{reported_number}
use Rattle.bridge.proofs.Replies.{read, unread, question_none, question_some}
use Rattle.bridge.proofs.calls.hedgemallow_preset.Goals as goal

pub returns-in_default : goal.returns-in_default
returns-in_default c = question_none _ _ _ (unread _ c.decode.result c.decode.ensures _ c.in_default.is) c.refusal.ensures

pub returns-in-Ok-preset : goal.returns-in-Ok-preset
returns-in-Ok-preset c = question_some _ _ _ _ (read _ c.decode.result c.decode.ensures _ c.in-Ok.is)
    (ap told (ap reported_number (sym c.in-Ok-preset.is) ∙ c.preset.ensures))

pub returns-in-Err : goal.returns-in-Err
returns-in-Err c = question_some _ _ _ _ (read _ c.decode.result c.decode.ensures _ c.in-Ok.is)
    (c.refusal-in-Err.ensures ∙ ap told (ap reported_number (sym c.in-Err.is) ∙ c.preset.ensures))
