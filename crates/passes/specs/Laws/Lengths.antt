-- A pass keeps the length of its frame, and persistence that of the history too; no pass clips more than three channels a word.
-- Assumes nothing.
use Rattle.std.specs.Prelude.{◌≡◌, ℕ, ◌+◌, ◌*◌, ◌≤◌, Bool, true, false, cond, List, length, Float}
use Rattle.std.proofs.Math.Path.{refl}
use native.Mathlib.Omega.{arith}
use Rattle.num.specs.Held.{Held, same_held}
use Rattle.num.specs.Laws.Rewrite.{length-rewrite}
use Rattle.passes.specs.Arith.{plain}
use Rattle.passes.specs.Painted.{onto}
use Rattle.passes.specs.Laws.Painted.{Paints, clamped_paints, unit_paints}
use Rattle.passes.specs as Text
use Rattle.passes.specs.Plain.Scanlines.{scanlines}
use Rattle.passes.specs.Plain.Vignette.{vignette}
use Rattle.passes.specs.Plain.Crt.{crt}
use Rattle.passes.specs.Plain.Curvature.{curvature}
use Rattle.passes.specs.Plain.AutoGradient.{auto_gradient}
use Rattle.passes.specs.Plain.Lut.{lut}
use Rattle.passes.specs.Plain.ColorCorrection.{color_correction}
use Rattle.passes.specs.Plain.Ntsc.{ntsc}
use Rattle.passes.specs.Plain.Bloom.{bloom}
use Rattle.passes.specs.Flow.{Flow, flow}
use Rattle.passes.specs.Plain.Persistence.{persistence, blend, shifted, refilled}
use Rattle.passes.specs.Laws.Persistence.{blend_paints, shifted-length, refilled-length}

module _ (w h : ℕ) (s : Float) (frame : List ℕ) where
  pub scanlines-length : length (scanlines w s frame) ≡ length frame
  unfolding Text.Scanlines.scanlines
  scanlines-length = length-rewrite _ _ _

  pub vignette-length : length (vignette w h s frame) ≡ length frame
  unfolding Text.Vignette.vignette
  vignette-length = length-rewrite _ _ _

  pub crt-length : length (crt w h s frame) ≡ length frame
  unfolding Text.Crt.crt
  crt-length = length-rewrite _ _ _

  pub curvature-length : length (curvature w h s frame) ≡ length frame
  unfolding Text.Curvature.curvature
  curvature-length = length-rewrite _ _ _

  pub auto_gradient_paints : (vertical horizontal : Float) → Paints frame (auto_gradient w h s vertical horizontal frame)
  unfolding Text.AutoGradient.auto_gradient Text.AutoGradient.shaded
  auto_gradient_paints vertical horizontal = clamped_paints plain _ frame

  pub lut_paints : (preset : ℕ) → Paints frame (lut preset s frame)
  unfolding Text.Lut.lut
  lut_paints preset = unit_paints plain _ frame

  pub color_correction_paints : (curve : List Float) (contrast saturation gamma : Float)
      → Paints frame (color_correction curve s contrast saturation gamma frame)
  unfolding Text.ColorCorrection.color_correction
  color_correction_paints curve contrast saturation gamma = unit_paints plain _ frame

  pub ntsc_paints : (bleed : ℕ) → Paints frame (ntsc w s bleed frame)
  unfolding Text.Ntsc.ntsc
  ntsc_paints bleed = clamped_paints plain _ frame

  pub bloom_paints : (threshold radius : ℕ) → Paints frame (bloom w h threshold s radius frame)
  unfolding Text.Bloom.bloom
  bloom_paints threshold radius = clamped_paints plain _ frame

module _ (amount : Float) (k : ℕ) (size : Held) (x : Flow) where
  abbrev either : Bool → Flow
  either b =
      cond b (flow (onto (blend amount k x.past) x.frame) size (shifted k x.frame.words x.past))
      (flow x.frame size (refilled k x.frame.words x.past))

  pub persistence-length : length (persistence amount k size x).frame.words ≡ length x.frame.words
  unfolding Text.Persistence.persistence
  persistence-length = of (same_held x.held size)
    where
      of : (b : Bool) → length (either b).frame.words ≡ length x.frame.words
      of true = (blend_paints amount k x.past x.frame.words).long
      of false = refl

  pub persistence-few : (persistence amount k size x).frame.clipped ≤ x.frame.clipped + 3 * length x.frame.words
  unfolding Text.Persistence.persistence
  persistence-few = of (same_held x.held size)
    where
      of : (b : Bool) → (either b).frame.clipped ≤ x.frame.clipped + 3 * length x.frame.words
      of true = omega (arith, (blend_paints amount k x.past x.frame.words).few)
      of false = omega arith

  pub history_length : k * length x.frame.words ≤ length x.past → length (persistence amount k size x).past ≡ length x.past
  unfolding Text.Persistence.persistence
  history_length h = of (same_held x.held size)
    where
      of : (b : Bool) → length (either b).past ≡ length x.past
      of true = shifted-length k x.frame.words x.past h
      of false = refilled-length k x.frame.words x.past h

  pub persistence-held : (persistence amount k size x).held ≡ size
  unfolding Text.Persistence.persistence
  persistence-held = of (same_held x.held size)
    where
      of : (b : Bool) → (either b).held ≡ size
      of true = refl
      of false = refl
