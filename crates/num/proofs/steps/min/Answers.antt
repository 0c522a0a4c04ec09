-- `num::steps::min` meets its contract: each arm returns what `cond` picks. Assumes nothing.
use Rattle.num.specs.Steps.{min_of}
use Rattle.num.proofs.steps.min.Goals as goal

pub returns-then-a-b : goal.returns-then-a-b
unfolding min_of
returns-then-a-b c = rw c.if-a-b.true

pub returns-else-a-b : goal.returns-else-a-b
unfolding min_of
returns-else-a-b c = rw c.if-a-b.false
