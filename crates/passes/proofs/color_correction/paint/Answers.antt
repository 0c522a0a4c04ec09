-- `passes::color_correction::paint` meets its contract. Assumes nothing.
use Rattle.std.proofs.Common.{sym, ◌∙◌}
use Rattle.passes.specs as Text
use Rattle.passes.proofs.color_correction.paint.Goals as goal

pub returns-then-is_curved : goal.returns-then-is_curved
unfolding Text.ColorCorrection.start
returns-then-is_curved c = rw (sym c.is_curved.ensures ∙ c.if-is_curved.true) c.by_curve.ensures

pub returns-else-is_curved : goal.returns-else-is_curved
unfolding Text.ColorCorrection.start
returns-else-is_curved c = rw (sym c.is_curved.ensures ∙ c.if-is_curved.false) c.by_share.ensures
