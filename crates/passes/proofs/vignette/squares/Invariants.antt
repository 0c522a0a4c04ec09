-- `passes::vignette::squares` meets its contract. Assumes nothing.
use Rattle.num.specs.F32.{◌⊕◌}
use Rattle.num.specs.Laws.Rewrite.{Rewritten}
use Rattle.passes.specs.Plain.Vignette.{offset_squared}
use Rattle.passes.proofs.vignette.squares.Given as goal

abbrev pub invariant-loop-x : goal.invariant-loop-x
invariant-loop-x l = Rewritten l.x (λ k _. offset_squared l.width k ⊕ l.yy) l.initial.line l.line
