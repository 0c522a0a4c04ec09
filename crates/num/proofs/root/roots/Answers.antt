-- `num::root::roots` meets its contract: part by part. Assumes nothing.
use native.Mathlib.Omega.{arith}
use Rattle.num.specs.Laws.Rewrite.{none, further_long, further, all}
use Rattle.num.proofs.root.roots.Goals as goal

pub loop-at-init : goal.loop-at-init
loop-at-init c = none _ _

pub part_end-end-requires : goal.part_end-end-requires
part_end-end-requires c = c.loop-at-test.true

pub part-requires : goal.part-requires
part-requires c = let t = c.loop-at.invariant in
    omega (arith, further_long c.part_end-end.result t (rw t.kept at c.part_end-end.ensures.1))

pub loop-at-preserved : goal.loop-at-preserved
loop-at-preserved c = let t = c.loop-at.invariant in
    further c.part_end-end.result t (rw t.kept at c.part_end-end.ensures.1) _ (omega arith) c.part.ensures

pub shape_of-xs : goal.shape_of-xs
shape_of-xs c = c.loop-at.invariant.kept

pub returns : goal.returns
returns c = all c.loop-at.invariant c.loop-at-test.false
