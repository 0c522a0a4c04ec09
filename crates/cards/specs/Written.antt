-- The written card: the bits of the fields in order, packed into bytes with zero bits to the byte's end. Assumes nothing.
use Rattle.std.specs.Prelude.{ℕ, zero, suc, ◌+◌, ◌*◌, ◌/◌, ◌%◌, cond, List, [], ◌∷◌, ◌++◌, length, get_or, take, drop, Float}
use Rattle.std.specs.Float.{binary32}
use Rattle.std.specs.Float.Ieee.{to_bits}
use Rattle.cards.specs.Passes.{kind_of}
use Rattle.cards.specs.declared.station.Pass.{Pass}
use Rattle.cards.specs.declared.station.Pass.TheVariants.{Ntsc, Bloom, AutoGradient, Persistence, Lut}
use Rattle.cards.specs.declared.station.Pass.TheVariants.{Curvature, ColorCorrection, Crt, Vignette, Scanlines}
use Rattle.cards.specs.declared.station.Record.{Record}
use Rattle.cards.specs.declared.station.Station.{Station}

-- k bits of v, most significant first
unfoldable pub bits : ℕ → ℕ → List ℕ
bits zero v = []
bits (suc k) v = bits k (v / 2) ++ v % 2 ∷ []

abbrev pub real : Float → List ℕ
real x = bits 32 (to_bits binary32 x)

unfoldable pub pass_bits : Pass → List ℕ
pass_bits (Ntsc strength bleed) = real strength ++ bits 8 bleed
pass_bits (Bloom threshold strength radius) = bits 8 threshold ++ (real strength ++ bits 8 radius)
pass_bits (AutoGradient strength vertical horizontal) = real strength ++ (real vertical ++ real horizontal)
pass_bits (Persistence amount depth) = real amount ++ bits 8 depth
pass_bits (Lut preset strength) = bits 3 preset ++ real strength
pass_bits (Curvature amount) = real amount
pass_bits (ColorCorrection brightness contrast saturation gamma) = real brightness ++ (real contrast ++ (real saturation ++ real gamma))
pass_bits (Crt strength) = real strength
pass_bits (Vignette strength) = real strength
pass_bits (Scanlines strength) = real strength

unfoldable pub record_bits : Record → List ℕ
record_bits r = bits 4 (kind_of r.pass) ++ (bits 1 (cond r.on 1 0) ++ pass_bits r.pass)

unfoldable pub records_bits : List Record → List ℕ
records_bits [] = []
records_bits (r ∷ rs) = record_bits r ++ records_bits rs

-- version, number of passes, records
unfoldable pub chain_bits : List Record → List ℕ
chain_bits rs = bits 4 1 ++ (bits 4 (length rs) ++ records_bits rs)

-- the number that the first k bits write, 0 for each bit past the end
unfoldable pub value_of : List ℕ → ℕ → ℕ
value_of bs zero = 0
value_of bs (suc k) = value_of bs k * 2 + get_or bs k 0

-- n bytes
unfoldable pub pack : ℕ → List ℕ → List ℕ
pack zero bs = []
pack (suc n) bs = value_of bs 8 ∷ pack n (drop 8 bs)

unfoldable pub chain_card : List Record → List ℕ
chain_card rs = pack ((length (chain_bits rs) + 7) / 8) (chain_bits rs)

-- the card that writing puts into the buffer
unfoldable pub card_of : Station → List ℕ
card_of s = chain_card (take s.n s.records)
