-- `areas::share::share` meets its contract: rectangle after rectangle. Assumes nothing.
use native.Mathlib.Omega.{arith}
use Rattle.num.specs.Laws.Rewrite.{none}
use Rattle.areas.proofs.Sharing.{red_fits, green_fits, blue_fits, all_shared}
use Rattle.areas.proofs.share.share.Goals as goal

pub loop-k-init : goal.loop-k-init
loop-k-init c = none _ _

pub overflow_add-res : goal.overflow_add-res
overflow_add-res c =
    omega (arith, red_fits c.requires c.loop-k-test.true c.loop-k.invariant c.area_at.ensures.same c.part_of.ensures c.between-t.ensures)

pub overflow_add-res-in-loop-k-2 : goal.overflow_add-res-in-loop-k-2
overflow_add-res-in-loop-k-2 c =
    omega (arith, green_fits c.requires c.loop-k-test.true c.loop-k.invariant c.area_at.ensures.same c.part_of.ensures c.between-t.ensures)

pub overflow_add-res-in-loop-k-4 : goal.overflow_add-res-in-loop-k-4
overflow_add-res-in-loop-k-4 c =
    omega (arith, blue_fits c.requires c.loop-k-test.true c.loop-k.invariant c.area_at.ensures.same c.part_of.ensures c.between-t.ensures)

pub loop-k-preserved : goal.loop-k-preserved
loop-k-preserved c = all_shared c.requires c.loop-k-test.true c.loop-k.invariant c.area_at.ensures.same c.part_of.ensures c.between-t.ensures
