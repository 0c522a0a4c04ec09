-- `passes::blur::weight_line` meets its contract. Assumes nothing.
use Rattle.num.specs.Laws.Rewrite.{Rewritten}
use Rattle.passes.specs.Plain.Blur.{weight_sum}
use Rattle.passes.proofs.blur.weight_line.Given as goal

abbrev pub invariant-loop-x : goal.invariant-loop-x
invariant-loop-x l = Rewritten l.x (λ k _. weight_sum l.n l.radius k) l.initial.sum-items l.sum-items
