-- `bridge::calls::hedgemallow_play` meets its contract: no state, or the sheet played on its station. Assumes nothing.
use Rattle.bridge.proofs.Replies.{read, unread}
use Rattle.bridge.proofs.Played.{sheet_none, sheet-some, plays, plays_none}
use Rattle.bridge.proofs.calls.hedgemallow_play.Goals as goal

pub returns-in_default : goal.returns-in_default
returns-in_default c = sheet_none _ _ _ _ _ _ _ _ _ (unread _ c.decode.result c.decode.ensures _ c.in_default.is) c.refusal.ensures

pub returns-in-Ok-play : goal.returns-in-Ok-play
returns-in-Ok-play c = sheet-some _ _ _ _ _ _ _ _ _ c.play.result _ _ _ _ _ _ _ _ (read _ c.decode.result c.decode.ensures _ c.in-Ok.is)
    c.play.ensures (plays _ _ _ _ _ c.play.result _ _ c.in-Ok-play.is c.encode.ensures)

pub returns-in-Err : goal.returns-in-Err
returns-in-Err c = sheet-some _ _ _ _ _ _ _ _ _ c.play.result _ _ _ _ _ _ _ _ (read _ c.decode.result c.decode.ensures _ c.in-Ok.is)
    c.play.ensures (plays_none _ _ _ _ _ c.play.result _ _ c.in-Err.is c.refusal-in-Err.ensures)
