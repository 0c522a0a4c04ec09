-- `passes::crt::edge` meets its contract. Assumes nothing.
use Rattle.passes.specs as Text
use Rattle.passes.proofs.crt.edge.Goals as goal

pub returns : goal.returns
unfolding Text.Crt.edge
returns c = cc
