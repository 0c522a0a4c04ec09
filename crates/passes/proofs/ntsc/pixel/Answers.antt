-- `passes::ntsc::pixel` meets its contract. Assumes nothing.
use Rattle.passes.specs as Text
use Rattle.passes.proofs.ntsc.pixel.Goals as goal

pub returns : goal.returns
unfolding Text.Ntsc.pixel
returns c = cc
