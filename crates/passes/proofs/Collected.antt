-- A frame of marked words, once its marks are cleared and added up, is what the final conversion makes of the frame, words and
-- count: the word is below 2^24, so that the mark above it comes off whole. Assumes nothing.
use Rattle.std.proofs.Common.{◌≡◌, ℕ, ◌+◌, ◌*◌, ◌/◌, ◌%◌, ◌<◌, ◌≤◌, List, length, get_or, refl, ap, ◌∙◌, ap₂, arith}
use lib.Ieee.{Float}
use Rattle.num.specs.Const.{c0_0, c1_0, c255_0}
use Rattle.num.specs.Steps.{clamp_of, cut_of}
use Rattle.num.specs.Sums.{sum}
use Rattle.num.specs.Laws.Sums.{sum_ext}
use Rattle.num.specs.Laws.Bounds.{unit-cut, clamp_cut, top_is}
use Rattle.num.specs.Rewrite.{every}
use Rattle.num.specs.Laws.Rewrite.{every_twice, rewrite_ext, get_d_rewrite, length-rewrite}
use Rattle.passes.specs as Text
use Rattle.passes.specs.Arith.{plain}
use Rattle.passes.specs.Painted.{Painted, painted, converted, from_clamped, from_unit}
use Rattle.passes.specs.Plain.Pixel.{pack_clamped, pack_unit, clips}
use Rattle.passes.specs.Private.{mark_clamped, mark_unit, every_clamped, every_unit, unmarked}
use Rattle.passes.specs.declared.pixel.Rgb.{Rgb}

-- ---- by any conversion to a word below 2^24

module _ (pack count : Rgb → ℕ) (small : (c : Rgb) → pack c < 16777216) (colour : ℕ → ℕ → Rgb) where
  abbrev mark : ℕ → ℕ → ℕ
  mark i p = pack (colour i p) + count (colour i p) * 16777216

  apart : (c : Rgb) (q : ℕ) → q ≡ pack c + count c * 16777216 → (q % 16777216 ≡ pack c) × (q / 16777216 ≡ count c)
  apart c q e = let s = small c in (omega arith, omega arith)

  collected : {out : Painted} (xs ys : List ℕ) → ys ≡ every mark xs → out ≡ unmarked ys → out ≡ converted pack count colour xs
  unfolding unmarked converted
  collected xs ys e o =
      let n : length ys ≡ length xs = ap length e ∙ length-rewrite (length xs) mark xs in
      o ∙ ap₂ painted
      (every_twice mark (λ i q. q % 16777216) xs ys e ∙ rewrite_ext (length xs) _ _ xs (λ i p l. (apart (colour i p) (mark i p) refl).0))
      (ap (λ (k : ℕ). sum k (λ i. get_or ys i 0 / 16777216)) n
      ∙ sum_ext (length xs) _ _ (λ i l. (apart (colour i (get_or xs i 0)) (get_or ys i 0)
      (ap (λ (z : List ℕ). get_or z i 0) e ∙ get_d_rewrite (length xs) mark xs i 0 l l)).1))

-- ---- by the two final conversions

pub clamped_small : (c : Rgb) → pack_clamped c < 16777216
unfolding Text.Pixel.pack_clamped Text.Pixel.pack
clamped_small c = omega (arith, top c.r, top c.g, top c.b)
  where
    top : (x : Float) → cut_of (clamp_of x c0_0 c255_0) ≤ 255
    top x = clamp_cut 255 x c255_0 top_is

pub unit-small : (c : Rgb) → pack_unit c < 16777216
unfolding Text.Pixel.pack_unit Text.Pixel.pack
unit-small c = omega (arith, unit-cut c.r, unit-cut c.g, unit-cut c.b)

module _ (colour : ℕ → ℕ → Rgb) {out : Painted} (xs ys : List ℕ) where
  pub collected_clamped : ys ≡ every_clamped colour xs → out ≡ unmarked ys → out ≡ from_clamped plain colour xs
  unfolding mark_clamped
  collected_clamped = collected pack_clamped (clips c255_0) clamped_small colour xs ys

  pub collected_unit : ys ≡ every_unit colour xs → out ≡ unmarked ys → out ≡ from_unit plain colour xs
  unfolding mark_unit
  collected_unit = collected pack_unit (clips c1_0) unit-small colour xs ys
