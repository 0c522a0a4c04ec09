-- `passes::bloom::composite_row` meets its contract. Assumes nothing.
use Rattle.std.proofs.Common.{ap, ◌∙◌, arith}
use Rattle.num.specs.Laws.Rewrite.{none, more}
use Rattle.passes.specs.Private.{mark_clamped}
use Rattle.passes.proofs.Planes.{same_composite}
use Rattle.passes.proofs.bloom.composite_row.Goals as goal

pub loop-x-init : goal.loop-x-init
loop-x-init c = none _ _

pub loop-x-preserved : goal.loop-x-preserved
loop-x-preserved c = more c.loop-x.invariant 0 (omega arith)
    (c.composite.ensures ∙ ap mark_clamped (same_composite _ _ c.quotient.ensures c.quotient-in-loop-x.ensures c.quotient-in-loop-x-2.ensures))
