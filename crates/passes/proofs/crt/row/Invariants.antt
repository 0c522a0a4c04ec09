-- `passes::crt::row` meets its contract. Assumes nothing.
use Rattle.num.specs.Laws.Rewrite.{Rewritten}
use Rattle.passes.specs.Plain.Crt.{word_at}
use Rattle.passes.proofs.crt.row.Given as goal

abbrev pub invariant-loop-x : goal.invariant-loop-x
invariant-loop-x l = Rewritten l.x (λ k. word_at l.width l.height l.strength k l.y) l.initial.row l.row
