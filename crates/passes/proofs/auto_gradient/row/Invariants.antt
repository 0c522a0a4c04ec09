-- `passes::auto_gradient::row` meets its contract. Assumes nothing.
use Rattle.num.specs.Laws.Rewrite.{Rewritten}
use Rattle.passes.specs.Plain.AutoGradient.{brightness, shade}
use Rattle.passes.specs.Private.{at, mark_clamped}
use Rattle.passes.proofs.auto_gradient.row.Given as goal

abbrev pub invariant-loop-x : goal.invariant-loop-x
invariant-loop-x l = Rewritten l.x (λ k p. mark_clamped (shade l.t (brightness l.t (at l.kept k)) p)) l.initial.row l.row
