-- `passes::auto_gradient::fall` meets its contract. Assumes nothing.
use Rattle.passes.specs as Text
use Rattle.passes.proofs.auto_gradient.fall.Goals as goal

pub returns : goal.returns
unfolding Text.AutoGradient.fall
returns c = cc
