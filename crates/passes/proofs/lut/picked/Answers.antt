-- `passes::lut::picked` meets its contract. Assumes nothing.
use Rattle.passes.specs.Private.{picked}
use Rattle.passes.proofs.lut.picked.Goals as goal

pub returns : goal.returns
unfolding picked
returns c = cc
