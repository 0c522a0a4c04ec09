-- CRT: a beam three rows high, a phosphor three columns wide, and a fall towards the edge. Its middle is that of the
-- places 0 to n - 1.
-- A is the arithmetic (Arith.antt): binary32 in the product. Definitions only.
use Rattle.std.specs.Prelude.{ℕ, zero, suc, ◌-◌, ◌%◌, List}
use Rattle.num.specs.Const.{c0_0, c0_035, c0_12, c0_5, c1_0}
use Rattle.num.specs.Rewrite.{every}
use Rattle.passes.specs.Arith.{Arith}
use Rattle.passes.specs.Pixel.{pack_nearest, unpack, scaled}
use Rattle.passes.specs.Rows.{placed}

module _ (A : Arith) where
  open A use {F, lit, whole, ◌⊕◌, ◌⊖◌, ◌⊗◌, ◌⊘◌, most, clamp, Rgb, rgb, red, green, blue}

  infixl 6 ◌⊕◌
  infixl 6 ◌⊖◌
  infixl 7 ◌⊗◌
  infixl 7 ◌⊘◌
  -- the beam, by the row modulo three: its middle row is bright
  unfoldable pub beam : ℕ → F → F
  beam (suc zero) strength = lit c1_0
  beam zero strength = lit c1_0 ⊖ lit c0_12 ⊗ strength
  beam (suc (suc n)) strength = lit c1_0 ⊖ lit c0_12 ⊗ strength

  -- the phosphor, by the column modulo three: one channel stays, the other two are dimmed
  unfoldable pub phosphor : ℕ → F → Rgb → Rgb
  phosphor zero dim c = rgb (red c) (green c ⊗ dim) (blue c ⊗ dim)
  phosphor (suc zero) dim c = rgb (red c ⊗ dim) (green c) (blue c ⊗ dim)
  phosphor (suc (suc n)) dim c = rgb (red c ⊗ dim) (green c ⊗ dim) (blue c)

  -- how far k is from the middle of 0..n - 1, times one over that middle, which is taken as at least 1
  unfoldable pub offset : ℕ → ℕ → F
  offset n k =
      let c = whole (n - 1) ⊗ lit c0_5 in
      (whole k ⊖ c) ⊗ (lit c1_0 ⊘ most c (lit c1_0))

  -- the fall towards the edge, by the offsets of column and row
  unfoldable pub edge : F → F → F → F
  edge strength nx ny = clamp (lit c1_0 ⊖ strength ⊗ lit c0_12 ⊗ (nx ⊗ nx ⊕ ny ⊗ ny)) (lit c0_0) (lit c1_0)

  -- a word of a column modulo three: the phosphor, then beam and edge as one factor, then rounded
  unfoldable pub shade : ℕ → F → F → ℕ → ℕ
  shade column dim factor p = pack_nearest A (scaled A factor (phosphor column dim (unpack A p)))

  -- the word at column x and row y
  abbrev pub word_at : ℕ → ℕ → F → ℕ → ℕ → ℕ → ℕ
  word_at w h strength x y =
      let dim = lit c1_0 ⊖ lit c0_035 ⊗ strength in
      let factor = beam (y % 3) strength ⊗ edge strength (offset w x) (offset h y) in
      shade (x % 3) dim factor

  unfoldable pub crt : ℕ → ℕ → F → List ℕ → List ℕ
  crt w h strength frame = every (placed w (word_at w h strength)) frame
