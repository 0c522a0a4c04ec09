-- What a chain is made of: the order of its passes, their switches and their settings. Assumes nothing.
use Rattle.std.specs.Prelude.{ℕ, Bool, List, [], ◌∷◌, map, ◌≡◌, take, Float}
use Rattle.cards.specs.Passes.{kind_of}
use Rattle.cards.specs.declared.station.Pass.{Pass}
use Rattle.cards.specs.declared.station.Pass.TheVariants.{Ntsc, Bloom, AutoGradient, Persistence, Lut}
use Rattle.cards.specs.declared.station.Pass.TheVariants.{Curvature, ColorCorrection, Crt, Vignette, Scanlines}
use Rattle.cards.specs.declared.station.Record.{Record}
use Rattle.cards.specs.declared.station.Station.{Station}

-- the settings of a pass that are binary32 numbers, and those that are whole numbers, in the card's order
abbrev pub floats : Pass → List Float
floats (Ntsc strength bleed) = strength ∷ []
floats (Bloom threshold strength radius) = strength ∷ []
floats (AutoGradient strength vertical horizontal) = strength ∷ vertical ∷ horizontal ∷ []
floats (Persistence amount depth) = amount ∷ []
floats (Lut preset strength) = strength ∷ []
floats (Curvature amount) = amount ∷ []
floats (ColorCorrection brightness contrast saturation gamma) = brightness ∷ contrast ∷ saturation ∷ gamma ∷ []
floats (Crt strength) = strength ∷ []
floats (Vignette strength) = strength ∷ []
floats (Scanlines strength) = strength ∷ []

abbrev pub wholes : Pass → List ℕ
wholes (Ntsc strength bleed) = bleed ∷ []
wholes (Bloom threshold strength radius) = threshold ∷ radius ∷ []
wholes (AutoGradient strength vertical horizontal) = []
wholes (Persistence amount depth) = depth ∷ []
wholes (Lut preset strength) = preset ∷ []
wholes (Curvature amount) = []
wholes (ColorCorrection brightness contrast saturation gamma) = []
wholes (Crt strength) = []
wholes (Vignette strength) = []
wholes (Scanlines strength) = []

-- the records of a station's chain
abbrev pub chain_of : Station → List Record
chain_of s = take s.n s.records

abbrev pub order : Station → List ℕ
order s = map (λ r. kind_of r.pass) (chain_of s)

abbrev pub switches : Station → List Bool
switches s = map (λ r. r.on) (chain_of s)

abbrev pub settings : Station → List (List Float × List ℕ)
settings s = map (λ r. (floats r.pass, wholes r.pass)) (chain_of s)

-- equal order, switches and settings
pub record Alike (s t : Station) : Type 0 where
  pub same_order : order s ≡ order t
  pub same_switches : switches s ≡ switches t
  pub same_settings : settings s ≡ settings t
