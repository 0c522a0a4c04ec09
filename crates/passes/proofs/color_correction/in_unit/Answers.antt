-- `passes::color_correction::in_unit` meets its contract. Assumes nothing.
use Rattle.passes.specs as Text
use Rattle.passes.proofs.color_correction.in_unit.Goals as goal

pub returns-then-x : goal.returns-then-x
unfolding Text.ColorCorrection.in_unit
returns-then-x c = simp c.if-x.true

pub returns-else-x : goal.returns-else-x
unfolding Text.ColorCorrection.in_unit
returns-else-x c = simp c.if-x.false
