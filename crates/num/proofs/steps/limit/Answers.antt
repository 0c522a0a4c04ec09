-- `num::steps::limit` meets its contract: the two calls' own. Assumes nothing.
use Rattle.num.specs.Steps.{limit_of}
use Rattle.num.proofs.steps.limit.Goals as goal

pub returns : goal.returns
unfolding limit_of
returns c = cc
