-- Bloom, of a threshold t up to 255 and a radius up to 64. A word is bright only if its luma is above t, and no luma is
-- above that of white, which is 255.0 exactly (three products and two sums, and rounding keeps the order). So at t =
-- 255 no word is bright, and the division by zero that document 01 allows for, if rounding lifted white above 255, is
-- never reached; for t up to 254 the divisor 255 - t is at least 1. A bright channel is in 0..255, blurred along rows
-- in -32895..32895, along columns in -4243455..4243455, laid over in -4243710..4243710: finite, then clamped to 0..255.
-- Assumes nothing.
use Rattle.std.specs.Prelude.{◌≡◌, ℕ, ◌+◌, ◌*◌, ◌/◌, ◌%◌, ◌<◌, ◌≤◌, Bool, true, false, cond, T, List, nat_lt, slice_index, refl, Float}
use Rattle.std.proofs.Common.{subst, arith, ltb-true, ltb-false, lit≤}
use Rattle.std.specs.Float.Ieee.{le, add, mul, of_bits, of_int}
use Rattle.num.specs.Const.{c0_0, c0_0722, c0_2126, c0_7152, c255_0}
use Rattle.num.specs.F32.{◌⊕◌, ◌⊖◌, ◌⊗◌, whole}
use Rattle.num.specs.Laws.Least.{top_least}
use Rattle.num.specs.Laws.Sized.{exact}
use Rattle.num.specs.Laws.Upto.{Upto, times-upto, plus_upto, upto_le, whole-upto}
use Rattle.num.specs.Ranges.{within}
use Rattle.passes.specs.Arith.{Arith, Agrees, plain}
use Rattle.passes.specs.Bloom as Bloom
use Rattle.passes.specs.Blur.{blur_at}
use Rattle.passes.proofs.Inside.Blur.{blur_in}
use Rattle.passes.proofs.Inside.Shared.{Tint, tint, loose, unpacked, scaled_in, channel_in, clamped_three}
use Rattle.passes.proofs.Inside.Shared.{luma709_in, cell_same}
use Rattle.passes.specs.Pixel.{unpack, luma709, scaled}
use Rattle.passes.specs.Laws.Painted.{placed_same}
use Rattle.passes.specs.Laws.Range.{Has, Plus, Big, signed, lit⁺, whole⁺, wide, difference, plus, minus, times}
use Rattle.passes.specs.Laws.Range.{over-one, zero⁺, top⁺, clamp_one}
use Rattle.passes.specs.Rows.{Frame}

-- ---- no luma is above 255

abbrev luma : ℕ → Float
luma p = luma709 plain (unpack plain p)

-- white is not lifted above 255
white-luma : luma 0xffffff ≡ c255_0
unfolding luma709 unpack of_bits of_int add mul
white-luma = refl

-- rounding keeps the order, so no word has a luma above that of white
below-white : (p : ℕ) → Upto (luma 0xffffff) (luma p)
unfolding luma709 unpack of_bits of_int add mul
below-white p =
    let r = p / 65536 % 256 in
    let g = p / 256 % 256 in
    let b = p % 256 in
    plus_upto (c0_2126 ⊗ whole 255 ⊕ c0_7152 ⊗ whole 255) (c0_0722 ⊗ whole 255) (c0_2126 ⊗ whole r ⊕ c0_7152 ⊗ whole g)
    (c0_0722 ⊗ whole b) tt
    (plus_upto (c0_2126 ⊗ whole 255) (c0_7152 ⊗ whole 255) (c0_2126 ⊗ whole r) (c0_7152 ⊗ whole g) tt
    (times-upto c0_2126 (whole 255) c0_2126 (whole r) tt (lit≤ tt) (whole-upto 255 r (omega arith) (lit≤ tt)))
    (times-upto c0_7152 (whole 255) c0_7152 (whole g) tt (lit≤ tt) (whole-upto 255 g (omega arith) (lit≤ tt))))
    (times-upto c0_0722 (whole 255) c0_0722 (whole b) tt (lit≤ tt) (whole-upto 255 b (omega arith) (lit≤ tt)))

pub luma_top : (p : ℕ) → Upto c255_0 (luma p)
luma_top p = subst (λ (z : Float). Upto z (luma p)) white-luma (below-white p)

-- so at threshold 255 no word is bright
none_bright : (p t : ℕ) → le (luma p) (whole t) ≡ false → t ≤ 255 → t < 255
unfolding of_bits of_int
none_bright p t e l = go (nat_lt t 255) refl
  where
    go : (b : Bool) → nat_lt t 255 ≡ b → t < 255
    go true f = ltb-true t 255 f
    go false f =
        let z : t ≡ 255 = (let m = ltb-false t 255 f in omega arith) in
        let h : T (le (luma p) (whole 255)) = upto_le c255_0 (luma p) (luma_top p) in
        absurd (subst T e (rw z h))

-- ---- the pass

-- no light, and that of a word of which the threshold leaves some
abbrev dark : (B : Arith) → B.Rgb
dark B = B.rgb (B.lit c0_0) (B.lit c0_0) (B.lit c0_0)

abbrev light : (B : Arith) → ℕ → ℕ → B.Rgb
light B t p = scaled B (Bloom.intensity B (B.whole t) (luma709 B (unpack B p))) (unpack B p)

module _ {A : Arith} (G : Agrees A) where
  bright_in : (p t : ℕ) → t ≤ 255
      → Tint G 255 (Bloom.bright A (A.whole t) (unpack A p)) (Bloom.bright plain (whole t) (unpack plain p))
  unfolding Bloom.bright
  bright_in p t l =
      let y = luma709_in (loose (unpacked G p)) tt tt tt in
      let k : Plus G 255 (A.whole t) (whole t) = whole⁺ 255 t l (lit≤ tt) in
      let e : A.at_most (luma709 A (unpack A p)) (A.whole t) ≡ le (luma p) (whole t) = G.at_most y.is k.is in
      rw e (go (le (luma p) (whole t)) refl)
    where
      nought : Has G 255 (A.lit c0_0) c0_0
      nought = wide 255 (signed zero⁺) tt

      go : (b : Bool) → le (luma p) (whole t) ≡ b
          → Tint G 255 (cond b (dark A) (light A t p)) (cond b (dark plain) (light plain t p))
      go true e = tint nought nought nought
      go false e =
          let c = unpacked G p in
          let y = luma709_in (loose c) tt tt tt in
          let k = whole⁺ 255 t l (lit≤ tt) in
          let d : Big G 1 (A.◌⊖◌ (A.lit c255_0) (A.whole t)) (c255_0 ⊖ whole t) =
          record { is = (difference top⁺ k tt).is; least = top_least t (none_bright p t e l) } in
          loose (scaled_in c (clamp_one (over-one (minus y (signed k) tt) d (exact 1020 (lit≤ tt)))))

  pub bloom-inside : (w h threshold : ℕ) (strength : Float) (radius : ℕ) (frame : List ℕ) → Frame w h frame
      → threshold ≤ 255 → T (within 1 strength) → radius ≤ 64
      → Bloom.bloom A w h threshold (A.lit strength) radius frame
      ≡ Bloom.bloom plain w h threshold strength radius frame
  unfolding Bloom.bloom Bloom.composite
  bloom-inside w h threshold strength radius frame f l s m =
      placed_same _ _ _ _ frame w h _ _ f.area (λ x y p i j.
      let c = loose (unpacked G p) in
      let v = tint (blurred 0 x y i j) (blurred 1 x y i j) (blurred 2 x y i j) in
      clamped_three (glow c.red v.red) (glow c.green v.green) (glow c.blue v.blue))
    where
      across : (which x y : ℕ) → x < w → y < h
          → Has G 32895 (Bloom.horizontal A w radius (A.whole threshold) frame which x y)
          (Bloom.horizontal plain w radius (whole threshold) frame which x y)
      across which x y i j =
          blur_in G 255 w radius x (λ k. Bloom.sample A (A.whole threshold) frame w which k y)
          (λ k. Bloom.sample plain (whole threshold) frame w which k y)
          (lit≤ tt) m i
          (λ k n. rw (cell_same G f k y n j) (channel_in which (bright_in (slice_index frame (y * w + k)) threshold l)))

      blurred : (which x y : ℕ) → x < w → y < h
          → Has G 4243455 (blur_at A (λ k. Bloom.horizontal A w radius (A.whole threshold) frame which x k) h radius y)
          (blur_at plain (λ k. Bloom.horizontal plain w radius (whole threshold) frame which x k) h radius y)
      blurred which x y i j =
          blur_in G 32895 h radius y (λ k. Bloom.horizontal A w radius (A.whole threshold) frame which x k)
          (λ k. Bloom.horizontal plain w radius (whole threshold) frame which x k) (lit≤ tt) m j
          (λ k n. across which x k i n)

      glow : {a b : A.F} {x y : Float} → Has G 255 a x → Has G 4243455 b y
          → Has G 4243710 (A.◌⊕◌ a (A.◌⊗◌ b (A.lit strength))) (x ⊕ y ⊗ strength)
      glow a b = plus a (times b (signed (lit⁺ 1 strength s)) tt) tt
