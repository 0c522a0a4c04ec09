-- `passes::lut::greys` meets its contract. Assumes nothing.
use Rattle.std.proofs.Common.{ap, ◌∙◌, arith}
use Rattle.num.specs.Laws.Rewrite.{none, more}
use Rattle.passes.specs.Private.{entry}
use Rattle.passes.proofs.lut.greys.Goals as goal

pub loop-k-init : goal.loop-k-init
loop-k-init c = none _ _

pub loop-k-preserved : goal.loop-k-preserved
loop-k-preserved c = more c.loop-k.invariant 0 (omega arith) (c.entry.ensures ∙ ap (entry _) c.colour.ensures)
