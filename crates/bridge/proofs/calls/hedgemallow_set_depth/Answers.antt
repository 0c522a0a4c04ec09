-- `bridge::calls::hedgemallow_set_depth` meets its contract: no state, or the call's reply. Assumes nothing.
use Rattle.bridge.proofs.Replies.{read, unread, depth_none, depth-some}
use Rattle.bridge.proofs.calls.hedgemallow_set_depth.Goals as goal

pub returns-in_default : goal.returns-in_default
returns-in_default c = depth_none _ _ _ _ (unread _ c.decode.result c.decode.ensures _ c.in_default.is) c.refusal.ensures

pub returns : goal.returns
returns c = depth-some _ _ _ _ c.set_depth-called.result _ _ _ (read _ c.decode.result c.decode.ensures _ c.in-Ok.is) c.set_depth-called.ensures c.keep.ensures
