-- `passes::persistence::finish_part` meets its contract. Assumes nothing.
use Rattle.std.proofs.Common.{arith}
use Rattle.num.specs.Laws.Rewrite.{none, more}
use Rattle.passes.proofs.persistence.finish_part.Goals as goal

pub loop-i-init : goal.loop-i-init
loop-i-init c = none _ _

pub loop-i-preserved : goal.loop-i-preserved
loop-i-preserved c = more c.loop-i.invariant 0 (omega arith) c.clamped.ensures
