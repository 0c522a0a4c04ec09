-- `bridge::calls::hedgemallow_open` meets its contract: the station of a card, or why there is none. Assumes nothing.
use Rattle.bridge.proofs.Replies.{opens, opens_none}
use Rattle.bridge.proofs.calls.hedgemallow_open.Goals as goal

pub returns-in-Ok : goal.returns-in-Ok
returns-in-Ok c = opens _ _ _ c.open.result _ c.open.ensures c.in-Ok.is c.encode.ensures

pub returns-in-Err : goal.returns-in-Err
returns-in-Err c = opens_none _ _ c.open.result _ _ c.open.ensures c.in-Err.is c.refusal.ensures
