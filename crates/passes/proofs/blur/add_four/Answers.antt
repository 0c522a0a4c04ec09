-- `passes::blur::add_four` meets its contract: four scaled samples are added at each place, from the front. Assumes nothing.
use Rattle.std.proofs.Common.{refl, arith}
use lib.Ieee.{nan}
use Rattle.num.specs.Laws.Rewrite.{none, more}
use Rattle.passes.proofs.blur.add_four.Goals as goal

pub loop-i-init : goal.loop-i-init
loop-i-init c = none _ _

pub loop-i-preserved : goal.loop-i-preserved
loop-i-preserved c = let l = c.loop-i in
    more l.invariant nan (omega arith) refl
