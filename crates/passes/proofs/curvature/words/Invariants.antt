-- `passes::curvature::words` meets its contract. Assumes nothing.
use Rattle.std.proofs.Common.{get_or}
use Rattle.num.specs.Laws.Rewrite.{Rewritten}
use Rattle.passes.proofs.curvature.words.Given as goal

abbrev pub invariant-loop-place : goal.invariant-loop-place
invariant-loop-place l = Rewritten l.place-index (λ k p. get_or l.copy p 0) l.initial.line l.line
