-- `passes::color_correction::by_share` meets its contract. Assumes nothing.
use Rattle.std.proofs.Common.{ap, ◌∙◌, arith}
use Rattle.num.specs.Laws.Rewrite.{none, more}
use Rattle.passes.specs as Text
use Rattle.passes.specs.Private.{mark_unit, toned}
use Rattle.passes.proofs.color_correction.by_share.Goals as goal

pub loop-word-init : goal.loop-word-init
loop-word-init c = none _ _

pub loop-word-preserved : goal.loop-word-preserved
unfolding Text.ColorCorrection.colour Text.Pixel.unit Text.Pixel.unpack
loop-word-preserved c = let a = c.args in
    more c.loop-word.invariant 0 (omega arith)
    (c.tone.ensures ∙ ap (λ d. mark_unit (toned a.brightness a.contrast a.saturation d)) c.unit.ensures)
