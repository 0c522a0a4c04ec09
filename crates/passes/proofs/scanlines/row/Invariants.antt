-- `passes::scanlines::row` meets its contract: an even row stays, and each word of an odd one is dimmed. Assumes nothing.
use Rattle.num.specs.Laws.Rewrite.{Rewritten}
use Rattle.passes.specs.Plain.Scanlines.{word_at}
use Rattle.passes.proofs.scanlines.row.Given as goal

abbrev pub invariant-loop-word : goal.invariant-loop-word
invariant-loop-word l = Rewritten l.word-index (λ k. word_at l.strength k l.y) l.initial.row l.row
