-- `passes::rows::copy` meets its contract. Assumes nothing.
use Rattle.std.proofs.Common.{refl, ◌∙◌, arith}
use Rattle.num.specs.Laws.Rewrite.{none, more, all, rewrite_copy}
use Rattle.passes.proofs.rows.copy.Goals as goal

pub loop-x-init : goal.loop-x-init
loop-x-init c = none _ _

pub loop-x-preserved : goal.loop-x-preserved
loop-x-preserved c = more c.loop-x.invariant 0 (omega arith) refl

pub returns : goal.returns
returns c = all c.loop-x.invariant (omega arith) ∙ rewrite_copy c.args.to.now _ 0 c.requires
