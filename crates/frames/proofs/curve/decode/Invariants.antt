-- `frames::curve::decode` meets its contract. Assumes nothing.
use Rattle.num.specs.Laws.Rewrite.{Rewritten}
use Rattle.frames.specs.Curve.{word_at}
use Rattle.frames.proofs.curve.decode.Given as goal

abbrev pub invariant-loop-k : goal.invariant-loop-k
invariant-loop-k l = Rewritten l.k (λ k _. word_at l.file k) l.initial.words l.words
