-- Colour correction. Channels run from 0 to 1. The original raises each to the power gamma first. Here that power of each of the 256
-- channels is lent with the frame, as a curve; at gamma 1.0 the power gives back its operand, and no curve is read.
-- A is the arithmetic (Arith.antt): binary32 in the product. Definitions only.
use Rattle.std.specs.Prelude.{◌≡◌, ℕ, ◌≤◌, Bool, true, cond, ◌&&◌, List, [], ◌∷◌, length, take, nat_le, slice_index_or, Float}
use Rattle.std.specs.Float.{nan}
use Rattle.std.specs.Float.Ieee.{le, ne}
use Rattle.num.specs.Const.{c0_0, c0_5, c1_0, c255_0}
use Rattle.passes.specs.Arith.{Arith}
use Rattle.passes.specs.Painted.{Painted, from_unit}
use Rattle.passes.specs.Pixel.{luma709, by_number, channels}

-- whether a curve is read at that gamma
unfoldable pub curved : Float → Bool
curved gamma = ne gamma c1_0

-- in 0..1 by value: -0 is, no NaN and no infinity is
unfoldable pub in_unit : Float → Bool
in_unit x = le c0_0 x && le x c1_0

unfoldable pub all_in_unit : List Float → Bool
all_in_unit [] = true
all_in_unit (x ∷ xs) = in_unit x && all_in_unit xs

-- a curve that can be read: 256 words or more, the first 256 in 0..1; those past them do not matter
unfoldable pub good_curve : List Float → Bool
good_curve curve = nat_le 256 (length curve) && all_in_unit (take 256 curve)

-- words enough, where they are read
abbrev pub Enough : Float → List Float → Type 0
Enough gamma curve = curved gamma ≡ true → 256 ≤ length curve

module _ (A : Arith) where
  open A use {F, lit, whole, ◌⊕◌, ◌⊖◌, ◌⊗◌, ◌⊘◌, Rgb}

  infixl 6 ◌⊕◌
  infixl 6 ◌⊖◌
  infixl 7 ◌⊗◌
  infixl 7 ◌⊘◌
  -- what channel k starts from: word k of the curve; k/255 where none is read
  abbrev pub power : List Float → ℕ → F
  power curve k = lit (slice_index_or curve k nan)

  abbrev pub share : ℕ → F
  share k = whole k ⊘ lit c255_0

  unfoldable pub start : List Float → Float → ℕ → F
  start curve gamma = cond (curved gamma) (power curve) share

  -- brightness, then contrast about the middle
  abbrev pub level : F → F → F → F
  level brightness contrast x = (x ⊕ brightness ⊖ lit c0_5) ⊗ contrast ⊕ lit c0_5

  -- saturation about the luma
  abbrev pub saturate : F → Rgb → Rgb
  saturate saturation c =
      let luminance = luma709 A c in
      channels A (λ x. luminance ⊕ (x ⊖ luminance) ⊗ saturation) c

  unfoldable pub colour : (ℕ → F) → F → F → F → ℕ → Rgb
  colour start brightness contrast saturation p = saturate saturation (channels A (level brightness contrast) (by_number A start p))

  unfoldable pub color_correction : List Float → F → F → F → Float → List ℕ → Painted
  color_correction curve brightness contrast saturation gamma frame =
      from_unit A (λ i. colour (start curve gamma) brightness contrast saturation) frame
