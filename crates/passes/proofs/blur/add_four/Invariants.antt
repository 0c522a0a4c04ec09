-- `passes::blur::add_four` meets its contract: four scaled samples are added at each place, from the front. Assumes nothing.
use Rattle.num.specs.Laws.Rewrite.{Rewritten}
use Rattle.num.specs.F32.{◌⊕◌, ◌⊗◌}
use Rattle.passes.specs.Private.{at}
use Rattle.passes.proofs.blur.add_four.Given as goal

abbrev pub invariant-loop-i : goal.invariant-loop-i
invariant-loop-i l = Rewritten l.i (λ k v. v ⊕ at l.a k ⊗ l.w.a ⊕ at l.b k ⊗ l.w.b ⊕ at l.c k ⊗ l.w.c ⊕ at l.d k ⊗ l.w.d) l.initial.acc l.acc
