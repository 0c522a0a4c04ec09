-- `num::root::above_zero` meets its contract: each arm returns what `cond` picks. Assumes nothing.
use Rattle.num.proofs.root.above_zero.Goals as goal

pub returns-then-x : goal.returns-then-x
returns-then-x c = rw c.if-x.true

pub returns-else-x : goal.returns-else-x
returns-else-x c = rw c.if-x.false
