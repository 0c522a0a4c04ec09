-- How many bits a record takes on a card. Assumes nothing.
use Prim.Native.Nat.{ℕ, ◌+◌, ◌≤◌}
use native.Mathlib.Omega.{arith}
use mathlib.Core.List.{List, [], ◌∷◌, ◌++◌}
use mathlib.Core.Path.{◌≡◌, ap₂, ◌∙◌}
use lib.ListN.{length, get_or, length-append}
use Rattle.cards.specs.Passes.{kind_of}
use Rattle.cards.specs.Written.{bits, pass_bits, record_bits}
use Rattle.cards.specs.declared.station.Pass.{Pass}
use Rattle.cards.specs.declared.station.Pass.TheVariants.{Ntsc, Bloom, AutoGradient, Persistence, Lut, Curvature, ColorCorrection, Crt, Vignette}
use Rattle.cards.specs.declared.station.Pass.TheVariants.{Scanlines}
use Rattle.cards.specs.declared.station.Record.{Record}
use Rattle.cards.proofs.Packed.{length-bits}

-- n bits
record Long (n : ℕ) (bs : List ℕ) : Type 0 where
  long : length bs ≡ n

field : (k v : ℕ) → Long k (bits k v)
field k v = record { long = length-bits k v }

joined : {j k : ℕ} {xs ys : List ℕ} → Long j xs → Long k ys → Long (j + k) (xs ++ ys)
joined {xs = xs} {ys = ys} h l = record { long = length-append xs ys ∙ ap₂ (λ (a b : ℕ). a + b) h.long l.long }

-- the settings of a kind, and its record: kind, switch and settings
abbrev settings_width : ℕ → ℕ
settings_width k = get_or (0 ∷ 40 ∷ 48 ∷ 96 ∷ 40 ∷ 35 ∷ 32 ∷ 128 ∷ 32 ∷ 32 ∷ 32 ∷ []) k 0

abbrev pub width : ℕ → ℕ
width k = 4 + (1 + settings_width k)

pass_long : (p : Pass) → Long (settings_width (kind_of p)) (pass_bits p)
unfolding pass_bits
pass_long (Ntsc a b) = joined (field 32 _) (field 8 _)
pass_long (Bloom a b c) = joined (field 8 _) (joined (field 32 _) (field 8 _))
pass_long (AutoGradient a b c) = joined (field 32 _) (joined (field 32 _) (field 32 _))
pass_long (Persistence a b) = joined (field 32 _) (field 8 _)
pass_long (Lut a b) = joined (field 3 _) (field 32 _)
pass_long (Curvature a) = field 32 _
pass_long (ColorCorrection a b c d) = joined (field 32 _) (joined (field 32 _) (joined (field 32 _) (field 32 _)))
pass_long (Crt a) = field 32 _
pass_long (Vignette a) = field 32 _
pass_long (Scanlines a) = field 32 _

pub record_long : (r : Record) → length (record_bits r) ≡ width (kind_of r.pass)
unfolding record_bits
record_long r = (joined (field 4 _) (joined (field 1 _) (pass_long r.pass))).long

-- colour correction takes the most
pub record_short : (r : Record) → length (record_bits r) ≤ 133
record_short r = omega (arith, record_long r, most r.pass)
  where
    most : (p : Pass) → width (kind_of p) ≤ 133
    most (Ntsc a b) = omega arith
    most (Bloom a b c) = omega arith
    most (AutoGradient a b c) = omega arith
    most (Persistence a b) = omega arith
    most (Lut a b) = omega arith
    most (Curvature a) = omega arith
    most (ColorCorrection a b c d) = omega arith
    most (Crt a) = omega arith
    most (Vignette a) = omega arith
    most (Scanlines a) = omega arith
