-- `passes::pixel::unpack` meets its contract. Assumes nothing.
use Rattle.std.proofs.Common.{refl}
use Rattle.passes.specs as Text
use Rattle.passes.proofs.pixel.unpack.Goals as goal

pub returns : goal.returns
unfolding Text.Pixel.unpack
returns c = refl
