-- What a pass makes of a frame: its words, and how many channels their final conversion clipped. One function gives the
-- colour of each word, and the word and the count are both taken from it. Assumes nothing.
use Rattle.std.specs.Prelude.{ℕ, ◌+◌, List, length, slice_index}
use Rattle.num.specs.Const.{c1_0, c255_0}
use Rattle.num.specs.Rewrite.{every}
use Rattle.num.specs.Sums.{sum}
use Rattle.passes.specs.Arith.{Arith}
use Rattle.passes.specs.Pixel.{pack_clamped, pack_unit, clips}

pub record Painted : Type 0 where
  pub words : List ℕ
  pub clipped : ℕ

abbrev pub painted : List ℕ → ℕ → Painted
painted words clipped = record { words = words; clipped = clipped }

-- each word from its colour, which its place and the word there give; `count` tells how many channels of a colour `pack` clips
unfoldable pub converted : {C : Type 0} → (pack count : C → ℕ) → (ℕ → ℕ → C) → List ℕ → Painted
converted pack count colour frame =
    painted (every (λ i p. pack (colour i p)) frame) (sum (length frame) (λ i. count (colour i (slice_index frame i))))

-- the two final conversions: from 0..255, and from 0..1
module _ (A : Arith) where
  abbrev pub from_clamped : (ℕ → ℕ → A.Rgb) → List ℕ → Painted
  from_clamped = converted (pack_clamped A) (clips A c255_0)

  abbrev pub from_unit : (ℕ → ℕ → A.Rgb) → List ℕ → Painted
  from_unit = converted (pack_unit A) (clips A c1_0)

-- a frame that is painted once more: what was clipped adds up
abbrev pub onto : (List ℕ → Painted) → Painted → Painted
onto paint x = let y = paint x.words in painted y.words (x.clipped + y.clipped)

-- by a pass that clips nothing
abbrev pub unclipped : (List ℕ → List ℕ) → List ℕ → Painted
unclipped paint frame = painted (paint frame) 0
