-- NTSC: the frame's chroma is blurred along rows and blended with its own; the luma stays sharp.
-- A is the arithmetic (Arith.antt): binary32 in the product. Definitions only.
use Rattle.std.specs.Prelude.{ℕ, zero, suc, List}
use Rattle.num.specs.Const.{c0_10001, c0_14713, c0_28886, c0_39465, c0_436, c0_51499, c0_58060, c0_615, c1_13983}
use Rattle.num.specs.Const.{c2_03211}
use Rattle.passes.specs.Arith.{Arith}
use Rattle.passes.specs.Blur.{blur_at}
use Rattle.passes.specs.Painted.{Painted, from_clamped}
use Rattle.passes.specs.Pixel.{unpack, luma601}
use Rattle.passes.specs.Rows.{placed}

module _ (A : Arith) where
  open A use {F, lit, ◌⊕◌, ◌⊖◌, ◌⊗◌, neg, Rgb, rgb, red, green, blue, cell}

  infixl 6 ◌⊕◌
  infixl 6 ◌⊖◌
  infixl 7 ◌⊗◌
  -- the chroma components by number: 0 is U, 1 is V
  unfoldable pub chroma : ℕ → Rgb → F
  chroma zero c = neg (lit c0_14713) ⊗ red c ⊖ lit c0_28886 ⊗ green c ⊕ lit c0_436 ⊗ blue c
  chroma (suc n) c = lit c0_615 ⊗ red c ⊖ lit c0_51499 ⊗ green c ⊖ lit c0_10001 ⊗ blue c

  -- a component of the frame at column x and row y
  abbrev pub sample : ℕ → List ℕ → ℕ → ℕ → ℕ → F
  sample which frame w x y = chroma which (unpack A (cell w frame x y))

  -- the original component, and the blurred one by strength
  abbrev pub blend : F → F → F → F
  blend strength original blurred = original ⊕ (blurred ⊖ original) ⊗ strength

  -- YUV to RGB
  abbrev pub colour : F → F → F → Rgb
  colour y u v =
      rgb (y ⊕ lit c1_13983 ⊗ v) (y ⊖ lit c0_39465 ⊗ u ⊖ lit c0_58060 ⊗ v) (y ⊕ lit c2_03211 ⊗ u)

  -- a word's colour with its blurred chroma
  unfoldable pub pixel : F → F → F → ℕ → Rgb
  pixel strength blurred_u blurred_v p =
      let c = unpack A p in
      let u = blend strength (chroma 0 c) blurred_u in
      let v = blend strength (chroma 1 c) blurred_v in
      colour (luma601 A c) u v

  -- the colour at column x and row y
  abbrev pub colour_at : ℕ → F → ℕ → List ℕ → ℕ → ℕ → ℕ → Rgb
  colour_at w strength bleed frame x y =
      let blurred_u = blur_at A (λ i. sample 0 frame w i y) w bleed x in
      let blurred_v = blur_at A (λ i. sample 1 frame w i y) w bleed x in
      pixel strength blurred_u blurred_v

  unfoldable pub ntsc : ℕ → F → ℕ → List ℕ → Painted
  ntsc w strength bleed frame = from_clamped A (placed w (colour_at w strength bleed frame)) frame
