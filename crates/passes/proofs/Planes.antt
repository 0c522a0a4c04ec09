-- Bloom by rows and planes. Assumes nothing.
use Rattle.std.proofs.Common.{◌≡◌, ℕ, ◌+◌, ◌-◌, ◌*◌, ◌/◌, ◌%◌, ◌<◌, ◌≤◌, List, length, get_or, take, drop, ap, ◌∙◌, arith}
use lib.Ieee.{Float, nan}
use Rattle.passes.specs.Plain.Pixel.{rgb}
use Rattle.passes.specs.Rows.{sampled}
use Rattle.passes.specs.Laws.Rows.{get_d_sampled, column, row, row_ends}
use Rattle.passes.specs.Plain.Blur.{weight_sum, down}
use Rattle.passes.specs.Plain.Bloom.{composite, bright_of, sample}
use Rattle.passes.specs.Private.{at, blur_by, horizontal_by, stored}
use Rattle.passes.proofs.RowLoops.{lent_length, lent-word}
use Rattle.passes.proofs.Offsets.{blur_same}

pub same_composite : (s : Float) {r r' g g' b b' : Float} (p : ℕ) → r ≡ r' → g ≡ g' → b ≡ b'
    → composite s (rgb r g b) p ≡ composite s (rgb r' g' b') p
same_composite s p e f h = cc

-- a row of the frame, as it is lent beside the planes' row
module _ (frame : List ℕ) (w h y from : ℕ) (area : length frame ≡ h * w) (l : y < h) (e : from ≡ y * w) where
  pub beside_in : from + w ≤ length frame
  beside_in = omega (arith, row_ends w h y l)

  pub beside : length (take (from + w - from) (drop from frame)) ≡ w
  beside = lent_length from w frame beside_in

  pub row_across : (sums : ℕ → Float) (threshold : Float) (which radius x : ℕ) →
      let r = take (from + w - from) (drop from frame) in
      blur_by sums (λ i. bright_of threshold which (get_or r i 0)) (length r) radius x ≡ horizontal_by sums w radius threshold frame which x y
  row_across sums threshold which radius x =
      let r = take (from + w - from) (drop from frame) in
      ap (λ (m : ℕ). blur_by sums (λ i. bright_of threshold which (get_or r i 0)) m radius x) beside
      ∙ blur_same sums (λ i. bright_of threshold which (get_or r i 0)) (λ i. sample threshold frame w which i y) w radius x
      (λ i q. ap (bright_of threshold which)
      (lent-word from w frame 0 i q ∙ ap (λ (m : ℕ). get_or frame (m + i) 0) e))

-- planes that were filled by f
module _ (w h radius : ℕ) (f : ℕ → ℕ → ℕ → Float) (before planes : List Float) (area : length before ≡ h * (3 * w))
    (e : planes ≡ sampled (3 * w) (λ i y. f (i / w) (i % w) y) before) where
  stored_is : (which x y : ℕ) → which < 3 → x < w → y < h → stored planes w which x y ≡ f which x y
  stored_is which x y a b c =
      ap (λ (z : List Float). at z (y * (3 * w) + (which * w + x))) e
      ∙ get_d_sampled (3 * w) h before (λ i j. f (i / w) (i % w) j) (which * w + x) y nan area (omega (arith, row_ends w 3 which a)) c
      ∙ rw (column w x which b, row w x which b)

  pub down_is : (which x y : ℕ) → which < 3 → x < w → down h radius (stored planes w which) x y ≡ down h radius (f which) x y
  down_is which x y a b =
      blur_same (weight_sum h radius) (λ i. stored planes w which x i) (λ i. f which x i) h radius y (λ i l. stored_is which x i a b l)
