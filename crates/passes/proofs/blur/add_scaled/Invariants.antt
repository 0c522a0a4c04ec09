-- `passes::blur::add_scaled` meets its contract: scaled samples are added from the front. Assumes nothing.
use Rattle.num.specs.Laws.Rewrite.{Rewritten}
use Rattle.num.specs.F32.{◌⊕◌, ◌⊗◌}
use Rattle.passes.specs.Private.{at}
use Rattle.passes.proofs.blur.add_scaled.Given as goal

abbrev pub invariant-loop-i : goal.invariant-loop-i
invariant-loop-i l = Rewritten l.i (λ k v. v ⊕ at l.src k ⊗ l.w) l.initial.acc l.acc
