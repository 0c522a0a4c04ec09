-- `passes::auto_gradient::row` meets its contract. Assumes nothing.
use Rattle.std.proofs.Common.{arith}
use Rattle.num.specs.Laws.Rewrite.{none, more}
use Rattle.passes.proofs.auto_gradient.row.Goals as goal

pub loop-x-init : goal.loop-x-init
loop-x-init c = none _ _

pub loop-x-preserved : goal.loop-x-preserved
loop-x-preserved c = more c.loop-x.invariant 0 (omega arith) (cc)
