-- `passes::pixel::dim` meets its contract. Assumes nothing.
use Rattle.passes.specs as Text
use Rattle.passes.proofs.pixel.dim.Goals as goal

pub returns : goal.returns
unfolding Text.Pixel.dim
returns c = cc
