-- `bridge::state::put_sizes` meets its contract: the loop's invariant is `Put`. Assumes nothing.
use Rattle.std.proofs.Common.{rules, ◌≡◌, length}
use Rattle.bridge.proofs.Sizes.{put_none, put_more}
use Rattle.bridge.proofs.state.put_sizes.Goals as goal

pub loop-i-init : goal.loop-i-init
loop-i-init c = put_none _ _ c.requires

pub loop-i-preserved : goal.loop-i-preserved
loop-i-preserved c = let twelve : length c.args.records.now ≡ 12 = search rules in put_more c.loop-i.invariant twelve c.loop-i-test.true _ c.put_size.ensures
