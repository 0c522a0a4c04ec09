-- `passes::pixel::pack_unit` meets its contract: each channel is at most 255, so nothing wraps. Assumes nothing.
use Rattle.std.proofs.Common.{arith}
use Rattle.passes.specs as Text
use Rattle.passes.proofs.pixel.pack_unit.Goals as goal

pub returns : goal.returns
unfolding Text.Pixel.pack_unit Text.Pixel.pack
returns c = omega arith
