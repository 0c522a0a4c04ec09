-- `passes::auto_gradient::adaptive` meets its contract. Assumes nothing.
use Rattle.passes.specs as Text
use Rattle.passes.proofs.auto_gradient.adaptive.Goals as goal

pub returns : goal.returns
unfolding Text.AutoGradient.adaptive
returns c = cc
