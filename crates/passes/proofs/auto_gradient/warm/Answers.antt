-- `passes::auto_gradient::warm` meets its contract. Assumes nothing.
use Rattle.passes.specs as Text
use Rattle.passes.proofs.auto_gradient.warm.Goals as goal

pub returns : goal.returns
unfolding Text.AutoGradient.warm
returns c = cc
