-- `num::whole::near` meets its contract: `NearWhole.antt` has each fact. Assumes nothing.
use Rattle.num.proofs.NearWhole.{sum-bits}
use Rattle.num.proofs.whole.near.Goals as goal

pub float_to_bits-result : goal.float_to_bits-result
float_to_bits-result c = (sum-bits c.args.v c.requires).0

pub overflow_sub-result : goal.overflow_sub-result
overflow_sub-result c = (sum-bits c.args.v c.requires).1

pub returns : goal.returns
returns c = (sum-bits c.args.v c.requires).2
