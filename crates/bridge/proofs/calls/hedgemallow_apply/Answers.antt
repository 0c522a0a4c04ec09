-- `bridge::calls::hedgemallow_apply` meets its contract: no state, or the chain's frame. Assumes nothing.
use Rattle.bridge.proofs.Replies.{read, unread, frame_none, frame_some, kept-tells}
use Rattle.bridge.proofs.calls.hedgemallow_apply.Goals as goal

pub returns-in_default : goal.returns-in_default
returns-in_default c = frame_none _ _ _ _ _ _ _ _ _ _ (unread _ c.decode.result c.decode.ensures _ c.in_default.is) c.refusal.ensures

pub returns : goal.returns
returns c = frame_some _ _ _ _ _ _ _ _ _ _ c.apply-applied.result _ _ _ _ _ _ _ _ (read _ c.decode.result c.decode.ensures _ c.in-Ok.is)
    c.apply-applied.ensures (kept-tells _ _ _ _ c.apply-applied.result _ _ _ _ c.keep_frame.ensures)
