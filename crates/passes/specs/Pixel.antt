-- A pixel word 0xRRGGBB and its three channels; the ways from channels back to a word, and which channels they clip.
-- A is the arithmetic (Arith.antt): binary32 in the product. Definitions only.
use Rattle.std.specs.Prelude.{ℕ, zero, suc, ◌+◌, ◌/◌, ◌%◌, cond, Float}
use Rattle.num.specs.Const.{c0_0, c0_0722, c0_114, c0_2126, c0_299, c0_587, c0_7152, c1_0, c255_0}
use Rattle.passes.specs.Arith.{Arith}

module _ (A : Arith) where
  open A use {F, lit, whole, ◌⊕◌, ◌⊗◌, ◌⊘◌, clamp, round, cut, Rgb, rgb, red, green, blue, below, word}

  infixl 6 ◌⊕◌
  infixl 7 ◌⊗◌
  infixl 7 ◌⊘◌
  -- one rule at each channel
  abbrev pub channels : (F → F) → Rgb → Rgb
  channels f c = rgb (f (red c)) (f (green c)) (f (blue c))

  abbrev pub scaled : F → Rgb → Rgb
  scaled factor c = channels (λ x. x ⊗ factor) c

  -- red, green or blue by number
  unfoldable pub channel : ℕ → Rgb → F
  channel zero c = red c
  channel (suc zero) c = green c
  channel (suc (suc n)) c = blue c

  -- one rule at the number of each channel of a word, 0 to 255; the top byte is ignored
  abbrev pub by_number : (ℕ → F) → ℕ → Rgb
  by_number f p = rgb (f (p / 65536 % 256)) (f (p / 256 % 256)) (f (p % 256))

  -- the channels of a word, 0 to 255
  unfoldable pub unpack : ℕ → Rgb
  unpack p = by_number whole p

  -- the channels as 0..1
  unfoldable pub unit : ℕ → Rgb
  unit p = channels (λ x. x ⊘ lit c255_0) (unpack p)

  -- each channel cut to a whole number
  unfoldable pub pack : Rgb → ℕ
  pack c = word (cut (red c)) (cut (green c)) (cut (blue c))

  -- each channel rounded
  unfoldable pub pack_nearest : Rgb → ℕ
  pack_nearest c = pack (channels round c)

  -- the final conversion from 0..255: clamped, then cut
  unfoldable pub pack_clamped : Rgb → ℕ
  pack_clamped c = pack (channels (λ x. clamp x (lit c0_0) (lit c255_0)) c)

  -- the final conversion from 0..1: clamped, times 255, then cut
  unfoldable pub pack_unit : Rgb → ℕ
  pack_unit c = pack (channels (λ x. clamp x (lit c0_0) (lit c1_0) ⊗ lit c255_0) c)

  -- whether a final conversion clips a channel: 1 where it lies strictly below 0 or strictly above the top end, else 0
  unfoldable pub clip : Float → F → ℕ
  clip top x = cond (below x (lit c0_0)) 1 (cond (below (lit top) x) 1 0)

  -- how many of a colour's channels it clips
  unfoldable pub clips : Float → Rgb → ℕ
  clips top c = clip top (red c) + clip top (green c) + clip top (blue c)

  -- a word's channels times a factor
  unfoldable pub dim : F → ℕ → ℕ
  dim factor p = pack (scaled factor (unpack p))

  -- BT.709 luma, and BT.601 luma
  unfoldable pub luma709 : Rgb → F
  luma709 c = lit c0_2126 ⊗ red c ⊕ lit c0_7152 ⊗ green c ⊕ lit c0_0722 ⊗ blue c

  unfoldable pub luma601 : Rgb → F
  luma601 c = lit c0_299 ⊗ red c ⊕ lit c0_587 ⊗ green c ⊕ lit c0_114 ⊗ blue c
