-- `passes::auto_gradient::add_luma` meets its contract. Assumes nothing.
use Rattle.passes.specs as Text
use Rattle.passes.proofs.auto_gradient.add_luma.Goals as goal

pub returns : goal.returns
unfolding Text.AutoGradient.add_luma
returns c = cc
