-- `passes::crt::apply` meets its contract: row by row. Assumes nothing.
use Rattle.passes.specs.Plain.Crt.{word_at}
use Rattle.passes.proofs.RowLoops.{Rows}
use Rattle.passes.proofs.crt.apply.Given as goal

abbrev pub invariant-loop-y : goal.invariant-loop-y
invariant-loop-y l = Rows l.width l.height l.y (word_at l.width l.height l.strength) l.initial.frame l.frame
