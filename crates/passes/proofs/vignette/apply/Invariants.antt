-- `passes::vignette::apply` meets its contract: the quarter's table, and then row by row. Assumes nothing.
use Rattle.passes.specs.Plain.Pixel.{dim}
use Rattle.passes.specs.Plain.Vignette.{factor_at}
use Rattle.passes.proofs.RowLoops.{Rows}
use Rattle.passes.proofs.Quarter.{Table}
use Rattle.passes.proofs.vignette.apply.Given as goal

abbrev pub invariant-loop-y : goal.invariant-loop-y
invariant-loop-y l = Rows l.width l.height l.y (λ x r. dim (factor_at l.width l.height l.strength x r)) l.initial.frame l.frame × Table l.width l.height l.strength l.scratch
