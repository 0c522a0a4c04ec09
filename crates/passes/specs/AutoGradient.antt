-- Gradient: a warm and cool gradient by rows and a light centre by columns, weaker in a bright scene.
-- A is the arithmetic (Arith.antt): binary32 in the product. Definitions only.
use Rattle.std.specs.Prelude.{ℕ, List, length}
use Rattle.num.specs.Const.{c0_0, c0_30, c0_45, c1_0, c14_0, c18_0, c255_0, c5_0}
use Rattle.passes.specs.Arith.{Arith}
use Rattle.passes.specs.Fold.{fold}
use Rattle.passes.specs.Painted.{Painted, from_clamped}
use Rattle.passes.specs.Pixel.{luma709, unpack}
use Rattle.passes.specs.Position.{position}
use Rattle.passes.specs.Rows.{placed}

module _ (A : Arith) where
  open A use {F, lit, whole, ◌⊕◌, ◌⊖◌, ◌⊗◌, ◌⊘◌, neg, abs, clamp, Rgb, rgb, red, green, blue}

  infixl 6 ◌⊕◌
  infixl 6 ◌⊖◌
  infixl 7 ◌⊗◌
  infixl 7 ◌⊘◌
  -- the sum so far and a word's luma
  unfoldable pub add_luma : F → ℕ → F
  add_luma sum p = sum ⊕ luma709 A (unpack A p)

  -- the strength, by the mean luma of the scene as 0..1
  unfoldable pub adaptive : F → ℕ → F → F
  adaptive strength count sum =
      let scene = clamp (sum ⊘ whole count ⊘ lit c255_0) (lit c0_0) (lit c1_0) in
      strength ⊗ (lit c1_0 ⊖ scene ⊗ lit c0_45)

  -- the warmth of row y of h, by the adaptive strength a
  unfoldable pub warm : ℕ → ℕ → F → F → F
  warm h y vertical a = neg (position A h y) ⊗ vertical ⊗ a

  -- how much of its light column x of w keeps
  unfoldable pub fall : ℕ → F → F → ℕ → F
  fall w horizontal a x = lit c1_0 ⊖ abs (position A w x) ⊗ horizontal ⊗ a

  -- the brightness factor of a column that keeps so much, in a row of warmth t
  unfoldable pub brightness : F → F → F
  brightness t kept = (lit c1_0 ⊕ t ⊗ lit c0_30) ⊗ kept

  unfoldable pub shade : F → F → ℕ → Rgb
  shade t factor p =
      let c = unpack A p in
      rgb (red c ⊗ factor ⊕ t ⊗ lit c18_0) (green c ⊗ factor ⊕ t ⊗ lit c5_0) (blue c ⊗ factor ⊖ t ⊗ lit c14_0)

  -- the colour at column x and row y
  abbrev pub colour_at : ℕ → ℕ → F → F → F → ℕ → ℕ → ℕ → Rgb
  colour_at w h vertical horizontal a x y = let t = warm h y vertical a in shade t (brightness t (fall w horizontal a x))

  unfoldable pub shaded : ℕ → ℕ → F → F → F → List ℕ → Painted
  shaded w h vertical horizontal a frame = from_clamped A (placed w (colour_at w h vertical horizontal a)) frame

  -- the mean is taken over the frame as it comes, by one sum from left to right
  unfoldable pub auto_gradient : ℕ → ℕ → F → F → F → List ℕ → Painted
  auto_gradient w h strength vertical horizontal frame =
      shaded w h vertical horizontal (adaptive strength (length frame) (fold add_luma (lit c0_0) frame)) frame
