-- `frames::area::read` meets its contract: byte after byte. Assumes nothing.
use Rattle.frames.proofs.Words.{one_less, none_left}
use Rattle.frames.proofs.area.read.Goals as goal

pub loop-b-preserved : goal.loop-b-preserved
loop-b-preserved c = one_less c.loop-b.invariant c.loop-b-test.true c.step-r.ensures

pub returns : goal.returns
returns c = none_left c.loop-b.invariant c.loop-b-test.false
