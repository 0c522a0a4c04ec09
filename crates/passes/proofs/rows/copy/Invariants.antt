-- `passes::rows::copy` meets its contract. Assumes nothing.
use Rattle.std.proofs.Common.{get_or}
use Rattle.num.specs.Laws.Rewrite.{Rewritten}
use Rattle.passes.proofs.rows.copy.Given as goal

abbrev pub invariant-loop-x : goal.invariant-loop-x
invariant-loop-x l = Rewritten l.x (λ k _. get_or l.from k 0) l.initial.to l.to
