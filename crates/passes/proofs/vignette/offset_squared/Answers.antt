-- `passes::vignette::offset_squared` meets its contract. Assumes nothing.
use Rattle.passes.specs as Text
use Rattle.passes.proofs.vignette.offset_squared.Goals as goal

pub returns : goal.returns
unfolding Text.Vignette.offset_squared
returns c = cc
