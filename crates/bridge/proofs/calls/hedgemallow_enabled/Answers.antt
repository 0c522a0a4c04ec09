-- `bridge::calls::hedgemallow_enabled` meets its contract: no state, or the call's answer. Assumes nothing.
use mathlib.Core.Path.{ap, sym, ◌∙◌}
use Rattle.cards.specs.Answers.{told}
use Rattle.chain.specs.Answers.{reported_switch}
use Rattle.bridge.proofs.Replies.{told_switch, read, unread, question_none, question_some}
use Rattle.bridge.proofs.calls.hedgemallow_enabled.Goals as goal

pub returns-in_default : goal.returns-in_default
returns-in_default c = question_none _ _ _ (unread _ c.decode.result c.decode.ensures _ c.in_default.is) c.refusal.ensures

pub returns-in-Ok-enabled : goal.returns-in-Ok-enabled
returns-in-Ok-enabled c = question_some _ _ _ _ (read _ c.decode.result c.decode.ensures _ c.in-Ok.is)
    (told_switch c.in-Ok-enabled.on ∙ ap told (ap reported_switch (sym c.in-Ok-enabled.is) ∙ c.enabled.ensures))

pub returns-in-Err : goal.returns-in-Err
returns-in-Err c = question_some _ _ _ _ (read _ c.decode.result c.decode.ensures _ c.in-Ok.is)
    (c.refusal-in-Err.ensures ∙ ap told (ap reported_switch (sym c.in-Err.is) ∙ c.enabled.ensures))
