-- `passes::color_correction::apply` meets its contract. Assumes nothing.
use Rattle.passes.specs as Text
use Rattle.passes.specs.Plain.ColorCorrection.{colour, start}
use Rattle.passes.proofs.Collected.{collected_unit}
use Rattle.passes.proofs.color_correction.apply.Goals as goal

pub returns : goal.returns
unfolding Text.ColorCorrection.color_correction
returns c = let a = c.args in
    collected_unit (λ i. colour (start a.curve.now a.gamma) a.brightness a.contrast a.saturation) _ _ c.paint.ensures c.collect.ensures
