-- What is proved of pixels and of files, as types: the proofs are in proofs/Back.antt, Decimal.antt and Taken.antt. Assumes nothing.
use Rattle.std.specs.Prelude.{ℕ, ◌+◌, ◌-◌, ◌*◌, ◌%◌, ◌^◌, ◌≤◌, ◌<◌, cond, List, [], ◌∷◌, map, ◌≡◌, length, get_or, take}
use Rattle.raster.specs.Pixels.{unpacked, packed_bytes}
use Rattle.raster.specs.Ppm.{is_digit, value_of, Frame, parse_of}

-- ## Pixels

-- words come back from their bytes with the top byte cleared
abbrev pub WordsBack : Type 0
WordsBack = (words : List ℕ) → unpacked (length words) (packed_bytes words) ≡ map (λ w. w % 2 ^ 24) words

-- so words without one come back as they were
abbrev pub WordsSame : Type 0
WordsSame = (words : List ℕ) → ((i : ℕ) → i < length words → get_or words i 0 < 2 ^ 24) → unpacked (length words) (packed_bytes words) ≡ words

-- and bytes come back from their words
abbrev pub BytesBack : Type 0
BytesBack =
    (n : ℕ) (bytes : List ℕ) → ((i : ℕ) → i < length bytes → get_or bytes i 0 < 256) → 3 * n ≤ length bytes
    → packed_bytes (unpacked n bytes) ≡ take (3 * n) bytes

-- ## Files

-- the value of the digits at the front after v, as large as it is
unfoldable pub decimal_of : ℕ → List ℕ → ℕ
decimal_of v [] = v
decimal_of v (b ∷ bytes) = cond (is_digit b) (decimal_of (v * 10 + (b - 48)) bytes) v

-- a number is read as what it is up to 9999, and one above as some number above
abbrev pub ReadDecimal : Type 0
ReadDecimal =
    (bytes : List ℕ) → (decimal_of 0 bytes ≤ 9999 → value_of 0 bytes ≡ decimal_of 0 bytes) × (9999 < decimal_of 0 bytes → 9999 < value_of 0 bytes)

-- a frame that is taken: its sides, its count, and its pixels, which end where the bytes do
pub record Whole (most : ℕ) (bytes : List ℕ) (width height start : ℕ) : Type 0 where
  pub some-width : 1 ≤ width
  pub some-height : 1 ≤ height
  pub small_width : width ≤ 1024
  pub small-height : height ≤ 1024
  pub few : height * width ≤ most
  pub ends : start + 3 * (height * width) ≡ length bytes

abbrev pub TakenWhole : Type 0
TakenWhole = (most : ℕ) (bytes : List ℕ) (width height start : ℕ) → parse_of most bytes ≡ Frame width height start → Whole most bytes width height start
