-- The settings of a pass, in the card's order. Assumes nothing.
use Rattle.std.specs.Prelude.{ℕ, List, [], ◌∷◌, Option, slice_get}
use Rattle.cards.specs.declared.station.Pass.{Pass}
use Rattle.cards.specs.declared.station.Pass.TheVariants.{Ntsc, Bloom, AutoGradient, Persistence, Lut, Curvature, ColorCorrection, Crt, Vignette, Scanlines}
use Rattle.inspect.specs.declared.settings.Setting.{Setting}
use Rattle.inspect.specs.declared.settings.Setting.TheVariants.{Real, Whole}

abbrev pub settings_of : Pass → List Setting
settings_of (Ntsc strength bleed) = Real strength ∷ Whole bleed ∷ []
settings_of (Bloom threshold strength radius) = Whole threshold ∷ Real strength ∷ Whole radius ∷ []
settings_of (AutoGradient strength vertical horizontal) = Real strength ∷ Real vertical ∷ Real horizontal ∷ []
settings_of (Persistence amount depth) = Real amount ∷ Whole depth ∷ []
settings_of (Lut preset strength) = Whole preset ∷ Real strength ∷ []
settings_of (Curvature amount) = Real amount ∷ []
settings_of (ColorCorrection brightness contrast saturation gamma) = Real brightness ∷ Real contrast ∷ Real saturation ∷ Real gamma ∷ []
settings_of (Crt strength) = Real strength ∷ []
settings_of (Vignette strength) = Real strength ∷ []
settings_of (Scanlines strength) = Real strength ∷ []

-- the setting at place j, counted from 0, if there is one
abbrev pub setting_of : Pass → ℕ → Option Setting
setting_of p j = slice_get (settings_of p) j
