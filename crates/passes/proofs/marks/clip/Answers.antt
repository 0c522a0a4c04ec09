-- `passes::marks::clip` meets its contract. Assumes nothing.
use Rattle.std.proofs.Common.{arith}
use Rattle.passes.specs as Text
use Rattle.passes.proofs.marks.clip.Goals as goal

pub returns-then-x : goal.returns-then-x
unfolding Text.Pixel.clip
returns-then-x c = (rw c.if-x.true, omega arith)

pub returns-then-top-x : goal.returns-then-top-x
unfolding Text.Pixel.clip
returns-then-top-x c = (rw (c.if-x.false, c.if-top-x.true), omega arith)

pub returns-else-top-x : goal.returns-else-top-x
unfolding Text.Pixel.clip
returns-else-top-x c = (rw (c.if-x.false, c.if-top-x.false), omega arith)
