-- `passes::color_correction::tone` meets its contract. Assumes nothing.
use Rattle.std.proofs.Common.{◌≡◌, ap, ◌∙◌, rules}
use Rattle.passes.specs.Plain.ColorCorrection.{level, saturate}
use Rattle.passes.specs.Plain.Pixel.{channels}
use Rattle.passes.specs.Private.{mark_unit}
use Rattle.passes.proofs.color_correction.tone.Goals as goal

pub returns : goal.returns
returns c =
    let a = c.args in
    let levelled : c.map-d.result ≡ channels (level a.brightness a.contrast) a.c = search rules in
    let saturated : c.map.result ≡ saturate a.saturation c.map-d.result = search rules in
    c.unit.ensures ∙ ap mark_unit (saturated ∙ ap (saturate a.saturation) levelled)
