-- `num::steps::plus_zero` meets its contract: each arm returns what `cond` picks. Assumes nothing.
use Rattle.num.specs.Steps.{plus_zero_of}
use Rattle.num.proofs.steps.plus_zero.Goals as goal

pub returns-then-x : goal.returns-then-x
unfolding plus_zero_of
returns-then-x c = rw c.if-x.true

pub returns-else-x : goal.returns-else-x
unfolding plus_zero_of
returns-else-x c = rw c.if-x.false
