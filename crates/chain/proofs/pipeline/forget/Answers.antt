-- `chain::pipeline::forget` meets its contract: record after record. Assumes nothing.
use Rattle.std.proofs.Common.{arith, refl, ◌∙◌}
use Rattle.num.specs.Laws.Rewrite.{none, more, all}
use Rattle.cards.specs.Laws.Scans.{past}
use Rattle.chain.proofs.Forgets.{forgotten}
use Rattle.chain.proofs.pipeline.forget.Goals as goal

pub loop-r-init : goal.loop-r-init
loop-r-init c = none _ _

pub loop-r-preserved : goal.loop-r-preserved
loop-r-preserved c = more c.loop-r.invariant past (omega (arith, c.loop-r.invariant.kept)) refl

pub returns : goal.returns
returns c = all c.loop-r.invariant (omega (arith, c.loop-r.invariant.kept)) ∙ forgotten _
