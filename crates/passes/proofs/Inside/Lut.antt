-- LUT, for every preset number. A channel over 255 is at most 255 (the divisor is at least 1), a luma at most 765, what
-- is rounded for Game Boy at most 2295 and then divided by 3; each treatment is in -4096..4096, blended with the
-- original in -4606..4606: finite, then clamped to 0..1 and times 255. Assumes nothing.
use Rattle.std.specs.Prelude.{◌≡◌, ℕ, zero, suc, T, List, Float}
use Rattle.std.proofs.Common.{lit≤}
use Rattle.std.specs.Float.Ieee.{of_bits}
use Rattle.num.specs.Const.{c0_01, c0_015, c0_16, c0_35, c0_42, c0_5, c0_58, c0_72, c0_82, c0_88, c0_92, c0_94, c0_95}
use Rattle.num.specs.Const.{c0_96, c0_99}
use Rattle.num.specs.Const.{c1_0, c1_01, c1_03, c1_05, c1_06, c1_25, c3_0}
use Rattle.num.specs.Laws.Sized.{exact}
use Rattle.num.specs.Ranges.{within}
use Rattle.passes.specs.Arith.{Arith, Agrees, plain}
use Rattle.passes.proofs.Inside.Shared.{Tint, Tint⁺, tint, united, unit_same, luma601_in}
use Rattle.passes.specs.Lut.{transform, blend, colour, lut}
use Rattle.passes.specs.Laws.Painted.{converted_same}
use Rattle.passes.specs.Pixel.{luma601}
use Rattle.passes.specs.Laws.Range.{Has, Plus, signed, lit, lit⁺, lit_big, wide, plus, minus, times, over, round}
use Rattle.passes.specs.declared.pixel.Rgb.{Rgb}

-- a channel x of Composite, by the luma y
abbrev toned : (B : Arith) → B.F → B.F → B.F → B.F → B.F
toned B y x s t = B.◌⊗◌ (B.◌⊕◌ y (B.◌⊗◌ (B.◌⊖◌ x y) s)) t

-- a channel of HighContrast
abbrev steep : (B : Arith) → B.F → B.F
steep B x = B.◌⊕◌ (B.◌⊗◌ (B.◌⊖◌ x (B.lit c0_5)) (B.lit c1_25)) (B.lit c0_5)

module _ {A : Arith} (G : Agrees A) where
  transformed : (n : ℕ) {c : A.Rgb} {d : Rgb} → Tint⁺ G 255 c d → Tint G 4096 (transform A n c) (transform plain n d)
  unfolding transform of_bits
  transformed zero h =
      record {
        red = wide 4096 (signed h.red) tt;
        green = wide 4096 (signed h.green) tt;
        blue = wide 4096
            (signed h.blue) tt;
      }
  transformed (suc zero) h =
      tint (wide 4096 (plus (times (signed h.red) (lit 2 c1_05 tt) tt) (lit 1 c0_015 tt) tt) tt)
      (wide 4096 (times (signed h.green) (lit 2 c1_01 tt) tt) tt)
      (wide 4096 (times (signed h.blue) (lit 1 c0_92 tt) tt) tt)
  transformed (suc (suc zero)) h =
      tint (wide 4096 (times (signed h.red) (lit 1 c0_94 tt) tt) tt)
      (wide 4096 (times (signed h.green) (lit 1 c0_99 tt) tt) tt)
      (wide 4096 (plus (times (signed h.blue) (lit 2 c1_06 tt) tt) (lit 1 c0_01 tt) tt) tt)
  transformed (suc (suc (suc zero))) {c} {d} h =
      tint (part h.red (lit 1 c0_82 tt) (lit 2 c1_03 tt))
      (part h.green (lit 1 c0_88 tt) (lit 2 c1_0 tt))
      (part h.blue (lit 1 c0_72 tt) (lit 2 c0_96 tt))
    where
      part : {a e f : A.F} {x s t : Float} → Plus G 255 a x → Has G 1 e s → Has G 2 f t
          → Has G 4096 (toned A (luma601 A c) a e f) (toned plain (luma601 plain d) x s t)
      part a s t =
          let y = signed (luma601_in h) in wide 4096 (times (plus y (times (minus (signed a) y tt) s tt) tt) t tt) tt
  transformed (suc (suc (suc (suc zero)))) h =
      let level =
      over (round (times (signed (luma601_in h)) (lit 3 c3_0 tt) tt) tt) (lit_big c3_0 tt (lit≤ tt))
      (exact 2295 (lit≤ tt)) in
      tint (wide 4096 (times level (lit 1 c0_35 tt) tt) tt)
      (wide 4096 (times level (lit 1 c0_72 tt) tt) tt)
      (wide 4096 (times level (lit 1 c0_42 tt) tt) tt)
  transformed (suc (suc (suc (suc (suc zero))))) h =
      let y = signed (luma601_in h) in
      tint (wide 4096 (times y (lit 1 c0_95 tt) tt) tt) (wide 4096 (times y (lit 1 c0_58 tt) tt) tt)
      (wide 4096 (times y (lit 1 c0_16 tt) tt) tt)
  transformed (suc (suc (suc (suc (suc (suc n)))))) h = tint (part h.red) (part h.green) (part h.blue)
    where
      part : {a : A.F} {x : Float} → Plus G 255 a x → Has G 4096 (steep A a) (steep plain x)
      part a = wide 4096 (plus (times (minus (signed a) (lit 1 c0_5 tt) tt) (lit 2 c1_25 tt) tt) (lit 1 c0_5 tt) tt) tt

  pub lut-inside : (preset : ℕ) (strength : Float) (frame : List ℕ) → T (within 1 strength)
      → lut A preset (A.lit strength) frame ≡ lut plain preset strength frame
  unfolding lut colour
  lut-inside preset strength frame s =
      converted_same _ _ _ _ frame _ _ (λ i p l.
      let c = united G p in
      let t = transformed preset c in
      unit_same (tint (mixed c.red t.red) (mixed c.green t.green) (mixed c.blue t.blue)))
    where
      mixed : {a b : A.F} {x y : Float} → Plus G 255 a x → Has G 4096 b y
          → Has G 4606 (blend A a b (A.lit strength)) (blend plain x y strength)
      mixed h g = plus (signed h) (times (minus g (signed h) tt) (signed (lit⁺ 1 strength s)) tt) tt
