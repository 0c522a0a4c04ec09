-- `passes::vignette::factor` meets its contract. Assumes nothing.
use Rattle.passes.specs as Text
use Rattle.passes.proofs.vignette.factor.Goals as goal

pub returns : goal.returns
unfolding Text.Vignette.factor
returns c = cc
