-- `bridge::calls::hedgemallow_depth` meets its contract: no state, or its depth. Assumes nothing.
use Rattle.bridge.proofs.Replies.{read, unread, question_none, question_some}
use Rattle.bridge.proofs.calls.hedgemallow_depth.Goals as goal

pub returns-in_default : goal.returns-in_default
returns-in_default c = question_none _ _ _ (unread _ c.decode.result c.decode.ensures _ c.in_default.is) c.refusal.ensures

pub returns : goal.returns
returns c = question_some _ _ _ _ (read _ c.decode.result c.decode.ensures _ c.in-Ok.is) c.places.ensures.0
