-- `passes::auto_gradient::rows` meets its contract: row by row. Assumes nothing.
use Rattle.passes.proofs.RowLoops.{Rows}
use Rattle.passes.specs.Private.{at, mark_clamped, gradient_by}
use Rattle.passes.proofs.auto_gradient.rows.Given as goal

abbrev pub invariant-loop-y : goal.invariant-loop-y
invariant-loop-y l = Rows l.width l.height l.y (λ x y p. mark_clamped (gradient_by l.height (at l.kept) l.vertical l.a x y p)) l.initial.frame l.frame
