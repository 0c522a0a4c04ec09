-- `passes::pixel::luma709` meets its contract. Assumes nothing.
use Rattle.passes.specs as Text
use Rattle.passes.proofs.pixel.luma709.Goals as goal

pub returns : goal.returns
unfolding Text.Pixel.luma709
returns c = cc
