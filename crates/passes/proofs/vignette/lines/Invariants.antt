-- `passes::vignette::lines` meets its contract: line by line. Assumes nothing.
use Rattle.passes.specs.Plain.Vignette.{factor_at}
use Rattle.passes.proofs.RowLoops.{Rows}
use Rattle.passes.proofs.vignette.lines.Given as goal

abbrev pub invariant-loop-y : goal.invariant-loop-y
invariant-loop-y l = Rows l.wide l.high l.y (λ x r _. factor_at l.width l.height l.strength x r) l.initial.table l.table
