-- `passes::pixel::luma601` meets its contract. Assumes nothing.
use Rattle.passes.specs as Text
use Rattle.passes.proofs.pixel.luma601.Goals as goal

pub returns : goal.returns
unfolding Text.Pixel.luma601
returns c = cc
