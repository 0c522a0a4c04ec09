-- `bridge::calls::hedgemallow_commit` meets its contract: no state, or the call's reply. Assumes nothing.
use Rattle.chain.specs.Answers.{called}
use Rattle.bridge.proofs.Replies.{read, unread, on_none, on-station}
use Rattle.bridge.proofs.calls.hedgemallow_commit.Goals as goal

pub returns-in_default : goal.returns-in_default
returns-in_default c = on_none _ _ _ (unread _ c.decode.result c.decode.ensures _ c.in_default.is) c.refusal.ensures

pub returns : goal.returns
returns c = on-station _ _ _ (called c.commit-called.result c.commit-called.new.station) _ (read _ c.decode.result c.decode.ensures _ c.in-Ok.is) c.commit-called.ensures c.keep.ensures
