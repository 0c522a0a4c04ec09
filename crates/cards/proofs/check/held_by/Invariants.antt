-- `cards::check::held_by` meets its contract: a record that holds frames decides, any other leaves it to those after it. Assumes nothing.
use Rattle.cards.specs.Normal.{held_by}
use Rattle.cards.specs.Laws.Scans.{Scanned}
use Rattle.cards.proofs.check.held_by.Given as goal

abbrev pub invariant-loop-r : goal.invariant-loop-r
invariant-loop-r l = Scanned (λ _. held_by) l.records l.r-index
