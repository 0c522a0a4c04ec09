-- `passes::pixel::pack_clamped` meets its contract: each channel is at most 255, so nothing wraps. Assumes nothing.
use Rattle.std.proofs.Common.{arith}
use Rattle.passes.specs as Text
use Rattle.passes.proofs.pixel.pack_clamped.Goals as goal

pub returns : goal.returns
unfolding Text.Pixel.pack_clamped Text.Pixel.pack
returns c = omega arith
