-- `passes::curvature::words` meets its contract. Assumes nothing.
use Rattle.std.proofs.Common.{arith}
use Rattle.num.specs.Laws.Rewrite.{none, more}
use Rattle.passes.proofs.curvature.words.Goals as goal

pub loop-place-init : goal.loop-place-init
loop-place-init c = none _ _

pub loop-place-preserved : goal.loop-place-preserved
loop-place-preserved c = more c.loop-place.invariant 0 (omega arith) c.word.ensures
