-- `chain::pipeline::forget` meets its contract: record after record. Assumes nothing.
use Rattle.num.specs.Held.{nothing}
use Rattle.num.specs.Laws.Rewrite.{Rewritten}
use Rattle.chain.specs.Chain.{with_held}
use Rattle.chain.proofs.pipeline.forget.Given as goal

abbrev pub invariant-loop-r : goal.invariant-loop-r
invariant-loop-r l = Rewritten l.r-index (λ i. with_held nothing) l.initial.records l.records
