-- The ten passes: each reads its settings in the order of document 01. Assumes nothing.
use Rattle.std.specs.Prelude.{ℕ, List, [], ◌∷◌, get_or}
use Rattle.cards.specs.Step.{Reader, ◌>>=◌, ret, refuse}
use Rattle.cards.specs.Bits.{field_at}
use Rattle.cards.specs.Settings.{limited_at, within_at, raised_at, count_at, preset_at}
use Rattle.std.specs.Float.Ieee.{neg}
use Rattle.num.specs.Const.{c0_0, c0_01, c0_5, c0_95, c1_0}
use Rattle.cards.specs.declared.station.Pass.{Pass}
use Rattle.cards.specs.declared.station.Pass.TheVariants.{Ntsc, Bloom, AutoGradient, Persistence, Lut}
use Rattle.cards.specs.declared.station.Pass.TheVariants.{Curvature, ColorCorrection, Crt, Vignette, Scanlines}

unfoldable pub ntsc_at : Reader Pass
ntsc_at = do
  strength ← limited_at c1_0
  bleed ← count_at 64
  ret (Ntsc strength bleed)

unfoldable pub bloom_at : Reader Pass
bloom_at = do
  threshold ← field_at 8
  strength ← limited_at c1_0
  radius ← count_at 64
  ret (Bloom threshold strength radius)

unfoldable pub auto_gradient_at : Reader Pass
auto_gradient_at = do
  strength ← limited_at c1_0
  vertical ← limited_at c1_0
  horizontal ← limited_at c1_0
  ret (AutoGradient strength vertical horizontal)

unfoldable pub persistence_at : Reader Pass
persistence_at = do
  amount ← limited_at c0_95
  depth ← count_at 8
  ret (Persistence amount depth)

unfoldable pub lut_at : Reader Pass
lut_at = do
  preset ← preset_at
  strength ← limited_at c1_0
  ret (Lut preset strength)

unfoldable pub curvature_at : Reader Pass
curvature_at = do
  amount ← limited_at c0_5
  ret (Curvature amount)

unfoldable pub color_correction_at : Reader Pass
color_correction_at = do
  brightness ← within_at (neg c1_0) c1_0
  contrast ← raised_at c0_0
  saturation ← raised_at c0_0
  gamma ← raised_at c0_01
  ret (ColorCorrection brightness contrast saturation gamma)

unfoldable pub crt_at : Reader Pass
crt_at = do
  strength ← limited_at c1_0
  ret (Crt strength)

unfoldable pub vignette_at : Reader Pass
vignette_at = do
  strength ← limited_at c1_0
  ret (Vignette strength)

unfoldable pub scanlines_at : Reader Pass
scanlines_at = do
  strength ← limited_at c1_0
  ret (Scanlines strength)

-- the settings of each kind, from 0 on; 0 has none
abbrev pub by_kind : List (Reader Pass)
by_kind =
    refuse 4 ∷ ntsc_at ∷ bloom_at ∷ auto_gradient_at ∷ persistence_at ∷ lut_at ∷ curvature_at ∷ color_correction_at ∷ crt_at ∷ vignette_at ∷ scanlines_at ∷ []

unfoldable pub pass_at : ℕ → Reader Pass
pass_at kind = get_or by_kind kind (refuse 4)

abbrev pub kind_of : Pass → ℕ
kind_of (Ntsc strength bleed) = 1
kind_of (Bloom threshold strength radius) = 2
kind_of (AutoGradient strength vertical horizontal) = 3
kind_of (Persistence amount depth) = 4
kind_of (Lut preset strength) = 5
kind_of (Curvature amount) = 6
kind_of (ColorCorrection brightness contrast saturation gamma) = 7
kind_of (Crt strength) = 8
kind_of (Vignette strength) = 9
kind_of (Scanlines strength) = 10
