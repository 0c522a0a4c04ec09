-- `num::whole::small` meets its contract: each arm returns what `cond` picks. Assumes nothing.
use Rattle.num.proofs.whole.small.Goals as goal

pub returns-then-abs : goal.returns-then-abs
returns-then-abs c = rw (← c.abs.ensures, c.if-abs.true)

pub returns-else-abs : goal.returns-else-abs
returns-else-abs c = rw (← c.abs.ensures, c.if-abs.false)
