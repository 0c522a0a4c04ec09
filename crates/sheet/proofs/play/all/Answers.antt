-- `sheet::play::all` meets its contract: a turn for each event, of which none is longer than the largest frame. Assumes nothing.
use Rattle.std.proofs.Common.{arith}
use Rattle.sheet.proofs.play.all.Goals as goal

pub read-requires : goal.read-requires
read-requires c = omega (arith, c.loop.invariant.1, c.loop-test.true, c.requires)
