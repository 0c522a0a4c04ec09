-- `passes::pixel::pack_nearest` meets its contract: each channel is at most 1023, so nothing wraps. Assumes nothing.
use Rattle.std.proofs.Common.{arith}
use Rattle.passes.specs as Text
use Rattle.passes.proofs.pixel.pack_nearest.Goals as goal

pub returns : goal.returns
unfolding Text.Pixel.pack_nearest Text.Pixel.pack
returns c = omega arith
