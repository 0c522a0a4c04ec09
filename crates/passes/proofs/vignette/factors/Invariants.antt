-- `passes::vignette::factors` meets its contract. Assumes nothing.
use Rattle.num.specs.Laws.Rewrite.{Rewritten}
use Rattle.passes.specs.Plain.Vignette.{factor}
use Rattle.passes.proofs.vignette.factors.Given as goal

abbrev pub invariant-loop-word : goal.invariant-loop-word
invariant-loop-word l = Rewritten l.word-index (λ k. factor l.strength) l.initial.line l.line
