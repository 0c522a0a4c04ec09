-- `passes::lut::by_mixing` meets its contract. Assumes nothing.
use Rattle.num.specs.Laws.Rewrite.{Rewritten}
use Rattle.passes.specs.Plain.Lut.{colour}
use Rattle.passes.specs.Private.{mark_unit}
use Rattle.passes.proofs.lut.by_mixing.Given as goal

abbrev pub invariant-loop-word : goal.invariant-loop-word
invariant-loop-word g l = Rewritten l.word-index (λ _ p. mark_unit (colour g.row.PRESET l.strength p)) l.initial.frame l.frame
