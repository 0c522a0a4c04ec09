-- `passes::vignette::row` meets its contract: up to the middle x is the nearer to 0 of x and n - x, and from there n - x is. Assumes nothing.
use Rattle.std.proofs.Common.{◌≡◌, ◌-◌, length, arith}
use Rattle.num.specs.Laws.Rewrite.{none, more}
use Rattle.passes.proofs.Mirror.{nearer}
use Rattle.passes.proofs.vignette.row.Goals as goal

pub loop-x-init : goal.loop-x-init
loop-x-init c = none _ _

pub loop-x-preserved : goal.loop-x-preserved
loop-x-preserved c = let x = c.loop-x.x in
    let near : nearer (length c.args.row.now) x ≡ x = omega arith in
    more c.loop-x.invariant 0 (omega arith) (cc)

pub loop-x-2-preserved : goal.loop-x-2-preserved
loop-x-2-preserved c = let x = c.loop-x-2.x in
    let near : nearer (length c.args.row.now) x ≡ length c.loop-x-2.row - x = omega arith in
    more c.loop-x-2.invariant 0 (omega arith) (cc)
