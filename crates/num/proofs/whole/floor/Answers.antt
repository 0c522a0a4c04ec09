-- `num::whole::floor` meets its contract: `WholePart.antt` has each fact. Assumes nothing.
use Rattle.num.proofs.WholePart.{sum-bits}
use Rattle.num.proofs.whole.floor.Goals as goal

pub float_to_bits-result : goal.float_to_bits-result
float_to_bits-result c = rw c.max.ensures (sum-bits c.args.v c.requires).0

pub overflow_sub-result : goal.overflow_sub-result
overflow_sub-result c = rw c.max.ensures (sum-bits c.args.v c.requires).1

pub returns : goal.returns
returns c = rw c.max.ensures (sum-bits c.args.v c.requires).2
