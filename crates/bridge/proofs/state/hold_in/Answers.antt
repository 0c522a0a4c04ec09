-- `bridge::state::hold_in` meets its contract: the loop's invariant is `Hold`. Assumes nothing.
use Rattle.bridge.proofs.Sizes.{hold_more, held_on}
use Rattle.bridge.proofs.state.hold_in.Goals as goal

pub loop-i-preserved : goal.loop-i-preserved
loop-i-preserved c = hold_more c.loop-i.invariant c.chain-n.ensures.few.1 c.chain-n.ensures.few.0 c.loop-i-test.true _ c.held_in.ensures

pub returns : goal.returns
returns c = held_on _ c.args.station.now _ c.loop-i.invariant c.chain-n.ensures.chain c.chain-n.ensures.few c.loop-i-test.false
