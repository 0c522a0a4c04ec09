-- No pass has more than four settings. Assumes nothing.
use Prim.Native.Nat.{◌≤◌}
use lib.Dec.{lit≤}
use lib.ListN.{length}
use Rattle.cards.specs.declared.station.Pass.{Pass}
use Rattle.cards.specs.declared.station.Pass.TheVariants.{Ntsc, Bloom, AutoGradient, Persistence, Lut, Curvature, ColorCorrection, Crt, Vignette, Scanlines}
use Rattle.inspect.specs.Settings.{settings_of}

pub few : (p : Pass) → length (settings_of p) ≤ 4
few (Ntsc a b) = lit≤ tt
few (Bloom a b c) = lit≤ tt
few (AutoGradient a b c) = lit≤ tt
few (Persistence a b) = lit≤ tt
few (Lut a b) = lit≤ tt
few (Curvature a) = lit≤ tt
few (ColorCorrection a b c d) = lit≤ tt
few (Crt a) = lit≤ tt
few (Vignette a) = lit≤ tt
few (Scanlines a) = lit≤ tt
