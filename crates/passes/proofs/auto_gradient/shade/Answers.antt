-- `passes::auto_gradient::shade` meets its contract. Assumes nothing.
use Rattle.passes.specs as Text
use Rattle.passes.proofs.auto_gradient.shade.Goals as goal

pub returns : goal.returns
unfolding Text.AutoGradient.shade
returns c = cc
