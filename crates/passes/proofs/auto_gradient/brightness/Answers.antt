-- `passes::auto_gradient::brightness` meets its contract. Assumes nothing.
use Rattle.passes.specs as Text
use Rattle.passes.proofs.auto_gradient.brightness.Goals as goal

pub returns : goal.returns
unfolding Text.AutoGradient.brightness
returns c = cc
