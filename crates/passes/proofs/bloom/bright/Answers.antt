-- `passes::bloom::bright` meets its contract. Assumes nothing.
use Rattle.std.proofs.Common.{◌≡◌, true, false, sym, ap, ◌∙◌}
use lib.Ieee.{Float, le, sub}
use Rattle.num.specs.Const.{c0_0}
use Rattle.passes.specs as Text
use Rattle.passes.specs.Plain.Pixel.{rgb, scaled, luma709}
use Rattle.passes.specs.Plain.Bloom.{bright, intensity}
use Rattle.passes.specs.declared.pixel.Rgb.{Rgb}
use Rattle.passes.proofs.bloom.bright.Goals as goal

module _ (threshold : Float) (c : Rgb) where
  upto : {l : Float} → l ≡ luma709 c → le l threshold ≡ true → rgb c0_0 c0_0 c0_0 ≡ bright threshold c
  unfolding Text.Bloom.bright
  upto e h = let k : le (luma709 c) threshold ≡ true = ap (λ (z : Float). le z threshold) (sym e) ∙ h in rw k

  above : {l t : Float} {r : Rgb} → l ≡ luma709 c → le l threshold ≡ false → t ≡ intensity threshold l → r ≡ scaled t c → r ≡ bright threshold c
  unfolding Text.Bloom.bright
  above {l} {t} {r} e h f g =
      let k : le (luma709 c) threshold ≡ false = ap (λ (z : Float). le z threshold) (sym e) ∙ h in
      g ∙ ap (λ (z : Float). scaled z c) (f ∙ ap (intensity threshold) e) ∙ rw k

pub returns-then-brightness-threshold : goal.returns-then-brightness-threshold
returns-then-brightness-threshold c = upto _ _ c.luma709-brightness.ensures c.if-brightness-threshold.true

pub returns : goal.returns
unfolding sub
returns c = above _ _ c.luma709-brightness.ensures c.if-brightness-threshold.false c.clamp-intensity.ensures c.scaled.ensures
