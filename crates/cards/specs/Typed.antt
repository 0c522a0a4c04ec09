-- What the types of the code hold: an f32 is a binary32, a u8 is below 256. And a chain that holds nothing, as every card's. Assumes nothing.
use Rattle.std.specs.Prelude.{◌<◌, List, [], ◌∷◌, ◌≡◌, T}
use Rattle.std.specs.Float.{binary32}
use Rattle.std.specs.Float.Ieee.{fits}
use Rattle.num.specs.Held.{nothing}
use Rattle.cards.specs.declared.station.Pass.{Pass}
use Rattle.cards.specs.declared.station.Pass.TheVariants.{Ntsc, Bloom, AutoGradient, Persistence, Lut}
use Rattle.cards.specs.declared.station.Pass.TheVariants.{Curvature, ColorCorrection, Crt, Vignette, Scanlines}
use Rattle.cards.specs.declared.station.Record.{Record}

-- where a count is limited anyway, its type is not asked
abbrev pub Typed : Pass → Type 0
Typed (Ntsc a b) = T (fits binary32 a)
Typed (Bloom a b c) = (a < 256) × T (fits binary32 b)
Typed (AutoGradient a b c) = T (fits binary32 a) × T (fits binary32 b) × T (fits binary32 c)
Typed (Persistence a b) = T (fits binary32 a)
Typed (Lut a b) = T (fits binary32 b)
Typed (Curvature a) = T (fits binary32 a)
Typed (ColorCorrection a b c d) = T (fits binary32 a) × T (fits binary32 b) × T (fits binary32 c) × T (fits binary32 d)
Typed (Crt a) = T (fits binary32 a)
Typed (Vignette a) = T (fits binary32 a)
Typed (Scanlines a) = T (fits binary32 a)

abbrev pub TypedChain : List Record → Type 0
TypedChain [] = Unit {0}
TypedChain (r ∷ rs) = Typed r.pass × TypedChain rs

-- no record holds frames
abbrev pub Unheld : List Record → Type 0
Unheld [] = Unit {0}
Unheld (r ∷ rs) = (r.held ≡ nothing) × Unheld rs
