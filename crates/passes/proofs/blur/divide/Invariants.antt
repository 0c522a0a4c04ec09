-- `passes::blur::divide` meets its contract. Assumes nothing.
use Rattle.num.specs.Laws.Rewrite.{Rewritten}
use Rattle.passes.specs.Plain.Blur.{quotient}
use Rattle.passes.specs.Private.{at}
use Rattle.passes.proofs.blur.divide.Given as goal

abbrev pub invariant-loop-i : goal.invariant-loop-i
invariant-loop-i l = Rewritten l.i (λ k v. quotient v (at l.w k)) l.initial.sums l.sums
