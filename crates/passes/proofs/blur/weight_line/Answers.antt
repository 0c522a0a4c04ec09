-- `passes::blur::weight_line` meets its contract: the front of the line is filled. Assumes nothing.
use Rattle.std.proofs.Common.{arith}
use lib.Ieee.{nan}
use Rattle.num.specs.Laws.Rewrite.{none, more, all}
use Rattle.passes.proofs.Offsets.{begins}
use Rattle.passes.proofs.blur.weight_line.Goals as goal

pub loop-x-init : goal.loop-x-init
loop-x-init c = none _ _

pub loop-x-preserved : goal.loop-x-preserved
loop-x-preserved c = more c.loop-x.invariant nan (omega arith) c.weight_sum.ensures

pub returns : goal.returns
returns c = begins _ _ c.line-out.ensures c.requires.1 (all c.loop-x.invariant (omega arith))
