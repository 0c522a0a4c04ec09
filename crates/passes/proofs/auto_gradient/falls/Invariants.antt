-- `passes::auto_gradient::falls` meets its contract. Assumes nothing.
use Rattle.std.proofs.Common.{length}
use Rattle.num.specs.Laws.Rewrite.{Rewritten}
use Rattle.passes.specs.Plain.AutoGradient.{fall}
use Rattle.passes.proofs.auto_gradient.falls.Given as goal

abbrev pub invariant-loop-x : goal.invariant-loop-x
invariant-loop-x l = Rewritten l.x (λ k _. fall (length l.initial.line) l.horizontal l.a k) l.initial.line l.line
