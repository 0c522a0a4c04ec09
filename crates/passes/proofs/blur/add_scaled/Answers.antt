-- `passes::blur::add_scaled` meets its contract: scaled samples are added from the front. Assumes nothing.
use Rattle.std.proofs.Common.{refl, arith}
use lib.Ieee.{nan}
use Rattle.num.specs.Laws.Rewrite.{none, more}
use Rattle.passes.proofs.blur.add_scaled.Goals as goal

pub loop-i-init : goal.loop-i-init
loop-i-init c = none _ _

pub loop-i-preserved : goal.loop-i-preserved
loop-i-preserved c = let l = c.loop-i in
    more l.invariant nan (omega arith) refl
