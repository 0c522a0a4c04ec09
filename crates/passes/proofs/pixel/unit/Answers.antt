-- `passes::pixel::unit` meets its contract. Assumes nothing.
use Rattle.std.proofs.Common.{rules}
use Rattle.passes.specs as Text
use Rattle.passes.proofs.pixel.unit.Goals as goal

pub returns : goal.returns
unfolding Text.Pixel.unit
returns c = search rules
