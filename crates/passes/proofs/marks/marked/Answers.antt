-- `passes::marks::marked` meets its contract. Assumes nothing.
use Rattle.std.proofs.Common.{arith}
use Rattle.passes.specs as Text
use Rattle.passes.proofs.marks.marked.Goals as goal

pub returns : goal.returns
unfolding Text.Pixel.clips
returns c = omega arith
