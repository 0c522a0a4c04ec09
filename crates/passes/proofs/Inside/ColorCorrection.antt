-- Colour correction, with brightness in -1..1, contrast and saturation in 0..4, and, where the curve is read, its first 256 words in
-- 0..1. A level is in -1029..1029, its luma in -3087..3087, a saturated channel in -19551..19551: finite, then clamped to 0..1 and
-- times 255. Gamma has no step. Assumes nothing.
use Rattle.std.specs.Prelude.{◌≡◌, ℕ, ◌/◌, ◌%◌, ◌<◌, Bool, true, false, T, List, slice_index_or, Float}
use Rattle.std.proofs.Math.Path.{refl}
use Rattle.std.proofs.Common.{arith, lit≤}
use Rattle.std.specs.Float.{nan}
use Rattle.std.specs.Float.Ieee.{of_bits}
use Rattle.num.specs.Const.{c0_5, c255_0}
use Rattle.num.specs.Laws.Bounds.{widen}
use Rattle.num.specs.Ranges.{within}
use Rattle.passes.specs.Arith.{Arith, Agrees, plain}
use Rattle.passes.specs.ColorCorrection as ColorCorrection
use Rattle.passes.proofs.Inside.Shared.{Tint, Tint⁺, tint, tint⁺, unit_same, luma709_in}
use Rattle.passes.specs.Laws.Painted.{converted_same}
use Rattle.passes.specs.Pixel.{by_number, luma709}
use Rattle.passes.specs.Laws.Range.{sized, Has, Plus, signed, lit, lit⁺, lit_big, whole⁺, over⁺, plus, minus, times}
use Rattle.passes.specs.declared.pixel.Rgb.{Rgb}

-- a channel x saturated about the luma y
abbrev about : (B : Arith) → B.F → B.F → B.F → B.F
about B saturation y x = B.◌⊕◌ y (B.◌⊗◌ (B.◌⊖◌ x y) saturation)

-- the words that are read are in 0..1
abbrev pub Fine : List Float → Float → Type 0
Fine curve gamma = ColorCorrection.curved gamma ≡ true → (k : ℕ) → k < 256 → T (within 1 (slice_index_or curve k nan))

module _ {A : Arith} (G : Agrees A) where
  started : (curve : List Float) (gamma : Float) → Fine curve gamma → (k : ℕ) → k < 256
      → Plus G 255 (ColorCorrection.start A curve gamma k) (ColorCorrection.start plain curve gamma k)
  unfolding ColorCorrection.start of_bits
  started curve gamma fine k l = go (ColorCorrection.curved gamma) refl
    where
      go : (b : Bool) → ColorCorrection.curved gamma ≡ b
          → Plus G 255 (ColorCorrection.start A curve gamma k) (ColorCorrection.start plain curve gamma k)
      go true e = rw e (lit⁺ 255 (slice_index_or curve k nan) (widen 1 255 (slice_index_or curve k nan) (lit≤ tt) (fine e k l)))
      go false e = rw e (over⁺ (whole⁺ 255 k (omega arith) (lit≤ tt)) (lit_big c255_0 tt (lit≤ tt)) tt)

  pub color_correction_inside : (curve : List Float) (brightness contrast saturation gamma : Float) (frame : List ℕ)
      → Fine curve gamma → T (sized 1 brightness) → T (within 4 contrast) → T (within 4 saturation)
      → ColorCorrection.color_correction A curve (A.lit brightness) (A.lit contrast) (A.lit saturation) gamma frame
      ≡ ColorCorrection.color_correction plain curve brightness contrast saturation gamma frame
  unfolding ColorCorrection.color_correction ColorCorrection.colour of_bits
  color_correction_inside curve brightness contrast saturation gamma frame fine b c s =
      converted_same _ _ _ _ frame _ _ (λ i p l.
      let u = begun p in
      unit_same (saturated (tint (level u.red) (level u.green) (level u.blue))))
    where
      level : {a : A.F} {x : Float} → Plus G 255 a x
          → Has G 1029 (ColorCorrection.level A (A.lit brightness) (A.lit contrast) a)
          (ColorCorrection.level plain brightness contrast x)
      level h =
          plus (times (minus (plus (signed h) (lit 1 brightness b) tt) (lit 1 c0_5 tt) tt)
          (signed (lit⁺ 4 contrast c)) tt) (lit 1 c0_5 tt) tt

      -- a channel's number is below 256
      begun : (p : ℕ) → Tint⁺ G 255 (by_number A (ColorCorrection.start A curve gamma) p) (by_number plain (ColorCorrection.start plain curve gamma) p)
      begun p =
          tint⁺ (started curve gamma fine (p / 65536 % 256) (omega arith)) (started curve gamma fine (p / 256 % 256) (omega arith))
          (started curve gamma fine (p % 256) (omega arith))

      saturated : {c : A.Rgb} {d : Rgb} → Tint G 1029 c d
          → Tint G 19551 (ColorCorrection.saturate A (A.lit saturation) c) (ColorCorrection.saturate plain saturation d)
      saturated {c} {d} h = tint (part h.red) (part h.green) (part h.blue)
        where
          part : {a : A.F} {x : Float} → Has G 1029 a x
              → Has G 19551 (about A (A.lit saturation) (luma709 A c) a) (about plain saturation (luma709 plain d) x)
          part a = let y = luma709_in h tt tt tt in plus y (times (minus a y tt) (signed (lit⁺ 4 saturation s)) tt) tt
