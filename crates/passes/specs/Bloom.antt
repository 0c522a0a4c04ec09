-- Bloom: what is bright in the frame, blurred along rows and then along columns, is laid over it.
-- A is the arithmetic (Arith.antt): binary32 in the product. Definitions only.
use Rattle.std.specs.Prelude.{ℕ, cond, List}
use Rattle.num.specs.Const.{c0_0, c1_0, c255_0}
use Rattle.passes.specs.Arith.{Arith}
use Rattle.passes.specs.Blur.{blur_at, down}
use Rattle.passes.specs.Painted.{Painted, from_clamped}
use Rattle.passes.specs.Pixel.{unpack, scaled, channel, luma709}
use Rattle.passes.specs.Rows.{placed}

module _ (A : Arith) where
  open A use {F, lit, whole, ◌⊕◌, ◌⊖◌, ◌⊗◌, ◌⊘◌, clamp, at_most, Rgb, rgb, red, green, blue, cell}

  infixl 6 ◌⊕◌
  infixl 6 ◌⊖◌
  infixl 7 ◌⊗◌
  infixl 7 ◌⊘◌
  -- how far a brightness lies above the threshold, from 0 to 1
  abbrev pub intensity : F → F → F
  intensity threshold brightness = clamp ((brightness ⊖ threshold) ⊘ (lit c255_0 ⊖ threshold)) (lit c0_0) (lit c1_0)

  -- the bright part of a colour: none up to the threshold. Document 01 allows for a division by zero at threshold 255, if
  -- rounding lifted white above it. It does not: no luma is above 255 (`luma_top` in Inside/Bloom.antt), so at 255 no
  -- colour is bright, and the divisor is 1 or more wherever it is reached
  unfoldable pub bright : F → Rgb → Rgb
  bright threshold c =
      let brightness = luma709 A c in
      let nothing = rgb (lit c0_0) (lit c0_0) (lit c0_0) in
      cond (at_most brightness threshold) nothing (scaled A (intensity threshold brightness) c)

  -- one channel of a word's bright part, and of that at column x and row y of a frame
  abbrev pub bright_of : F → ℕ → ℕ → F
  bright_of threshold which p = channel A which (bright threshold (unpack A p))

  abbrev pub sample : F → List ℕ → ℕ → ℕ → ℕ → ℕ → F
  sample threshold frame w which x y = bright_of threshold which (cell w frame x y)

  -- blurred along rows
  abbrev pub horizontal : ℕ → ℕ → F → List ℕ → ℕ → ℕ → ℕ → F
  horizontal w radius threshold frame which x y = blur_at A (λ i. sample threshold frame w which i y) w radius x

  -- three planes of samples, blurred along columns
  abbrev pub vertical : ℕ → ℕ → (ℕ → ℕ → ℕ → F) → ℕ → ℕ → Rgb
  vertical h radius plane x y =
      rgb (down A h radius (plane 0) x y) (down A h radius (plane 1) x y) (down A h radius (plane 2) x y)

  -- the glow of a word laid over it
  unfoldable pub composite : F → Rgb → ℕ → Rgb
  composite strength glow p =
      let c = unpack A p in
      rgb (red c ⊕ red glow ⊗ strength) (green c ⊕ green glow ⊗ strength) (blue c ⊕ blue glow ⊗ strength)

  -- the colour at column x and row y, over three planes that are blurred along rows
  abbrev pub over : ℕ → F → ℕ → (ℕ → ℕ → ℕ → F) → ℕ → ℕ → ℕ → Rgb
  over h strength radius plane x y = composite strength (vertical h radius plane x y)

  unfoldable pub bloom : ℕ → ℕ → ℕ → F → ℕ → List ℕ → Painted
  bloom w h threshold strength radius frame =
      from_clamped A (placed w (over h strength radius (horizontal w radius (whole threshold) frame))) frame
