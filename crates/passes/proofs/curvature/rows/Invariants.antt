-- `passes::curvature::rows` meets its contract: row by row. Assumes nothing.
use Rattle.passes.specs.Plain.Curvature.{word_at}
use Rattle.passes.proofs.RowLoops.{Rows}
use Rattle.passes.proofs.curvature.rows.Given as goal

abbrev pub invariant-loop-y : goal.invariant-loop-y
invariant-loop-y l = Rows l.width l.height l.y (word_at l.width l.height l.amount l.copy) l.initial.frame l.frame
