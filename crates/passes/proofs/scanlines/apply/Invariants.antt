-- `passes::scanlines::apply` meets its contract: row by row. Assumes nothing.
use Rattle.passes.specs.Plain.Scanlines.{word_at}
use Rattle.passes.proofs.RowLoops.{Rows}
use Rattle.passes.proofs.scanlines.apply.Given as goal

abbrev pub invariant-loop-y : goal.invariant-loop-y
invariant-loop-y l = Rows l.width l.height l.y (word_at l.strength) l.initial.frame l.frame
