-- `passes::vignette::factors` meets its contract. Assumes nothing.
use Rattle.std.proofs.Common.{arith}
use lib.Ieee.{nan}
use Rattle.num.specs.Laws.Rewrite.{none, more}
use Rattle.passes.proofs.vignette.factors.Goals as goal

pub loop-word-init : goal.loop-word-init
loop-word-init c = none _ _

pub loop-word-preserved : goal.loop-word-preserved
loop-word-preserved c = more c.loop-word.invariant nan (omega arith) c.factor.ensures
