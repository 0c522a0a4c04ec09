-- `card::compare::mixed` is safe: twelve passes at most, each of a depth of at most 255. Assumes nothing.
use native.Mathlib.Omega.{arith}
use Rattle.card.proofs.compare.mixed.Goals as goal

pub loop-r-init : goal.loop-r-init
loop-r-init c = (c.chain-r-items.ensures.few.0, omega arith)

pub overflow_add-depths : goal.overflow_add-depths
overflow_add-depths c = omega (arith, c.loop-r.invariant, c.depth-depths.ensures)

pub loop-r-preserved : goal.loop-r-preserved
loop-r-preserved c = (c.loop-r.invariant.0, omega (arith, c.loop-r.invariant.1, c.depth-depths.ensures))
