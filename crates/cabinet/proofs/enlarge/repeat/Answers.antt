-- `cabinet::enlarge::repeat` meets its contract: word after word, each as the one above it. Assumes nothing.
use native.Mathlib.Omega.{arith}
use Rattle.num.specs.Laws.Rewrite.{more, all}
use Rattle.cabinet.proofs.Sources.{first-line, above}
use Rattle.cabinet.proofs.enlarge.repeat.Goals as goal

pub loop-i-init : goal.loop-i-init
loop-i-init c = (omega arith, first-line c.args.wide c.args.out.now c.requires.1)

pub overflow_sub-out : goal.overflow_sub-out
overflow_sub-out c = omega (arith, c.loop-i.invariant.0)

pub offset_bounds-out-i : goal.offset_bounds-out-i
offset_bounds-out-i c = omega (arith, c.loop-i.invariant.1.kept, c.requires.2, c.loop-i-test.true)

pub bounds-out-i : goal.bounds-out-i
bounds-out-i c = omega (arith, c.loop-i-test.true)

pub offset_bounds-out-i-in-loop-i : goal.offset_bounds-out-i-in-loop-i
offset_bounds-out-i-in-loop-i c = omega (arith, c.loop-i.invariant.1.kept, c.requires.2, c.loop-i-test.true)

pub bounds-out-i-in-loop-i : goal.bounds-out-i-in-loop-i
bounds-out-i-in-loop-i c = omega (arith, c.loop-i-test.true)

pub overflow_add-i : goal.overflow_add-i
overflow_add-i c = omega (arith, c.loop-i.invariant.1.kept, c.requires.2, c.loop-i-test.true)

pub loop-i-smaller : goal.loop-i-smaller
loop-i-smaller c = omega (arith, c.loop-i.invariant.1.kept, c.loop-i-test.true)

pub loop-i-preserved : goal.loop-i-preserved
loop-i-preserved c = let t = c.loop-i.invariant.1 in (
  omega (arith, c.loop-i.invariant.0),
  more t 0 c.loop-i-test.true
      (above c.args.wide c.loop-i.i c.args.out.now c.loop-i.out c.requires.0 c.loop-i.invariant.0 (omega (arith, c.loop-i-test.true, t.kept)) t),
)

pub shape_of-out : goal.shape_of-out
shape_of-out c = c.loop-i.invariant.1.kept

pub returns : goal.returns
returns c = all c.loop-i.invariant.1 c.loop-i-test.false
