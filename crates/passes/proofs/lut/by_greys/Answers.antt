-- `passes::lut::by_greys` meets its contract. Assumes nothing.
use Rattle.std.proofs.Common.{arith}
use Rattle.num.specs.Laws.Rewrite.{none, more}
use Rattle.passes.proofs.lut.by_greys.Goals as goal

pub loop-word-init : goal.loop-word-init
loop-word-init c = none _ _

pub loop-word-preserved : goal.loop-word-preserved
loop-word-preserved c = more c.loop-word.invariant 0 (omega arith) c.picked.ensures
