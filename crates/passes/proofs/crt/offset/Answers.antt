-- `passes::crt::offset` meets its contract. Assumes nothing.
use Rattle.passes.specs as Text
use Rattle.passes.proofs.crt.offset.Goals as goal

pub returns : goal.returns
unfolding Text.Crt.offset
returns c = cc
