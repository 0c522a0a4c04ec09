-- `passes::persistence::finish_part` meets its contract. Assumes nothing.
use Rattle.num.specs.Laws.Rewrite.{Rewritten}
use Rattle.passes.specs.Plain.Pixel.{rgb}
use Rattle.passes.specs.Private.{at, mark_clamped}
use Rattle.passes.proofs.persistence.finish_part.Given as goal

abbrev pub invariant-loop-i : goal.invariant-loop-i
invariant-loop-i l = Rewritten l.i (λ x p. mark_clamped (rgb (at l.r x) (at l.g x) (at l.b x))) l.initial.part l.part
