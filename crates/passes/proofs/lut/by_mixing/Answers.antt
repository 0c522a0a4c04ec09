-- `passes::lut::by_mixing` meets its contract. Assumes nothing.
use Rattle.std.proofs.Common.{ap, ◌∙◌, arith}
use Rattle.num.specs.Laws.Rewrite.{none, more}
use Rattle.passes.specs.Private.{mark_unit}
use Rattle.passes.proofs.lut.by_mixing.Goals as goal

pub loop-word-init : goal.loop-word-init
loop-word-init g c = none _ _

pub loop-word-preserved : goal.loop-word-preserved
loop-word-preserved g c = more c.loop-word.invariant 0 (omega arith) (c.unit.ensures ∙ ap mark_unit c.colour.ensures)
