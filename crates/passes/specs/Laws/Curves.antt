-- Laws of the curve: what one that can be read has, and that no more than its first 256 words matter. Assumes nothing.
use Rattle.std.specs.Prelude.{◌≡◌, ℕ, zero, suc, ◌*◌, ◌/◌, ◌%◌, ◌<◌, ◌≤◌, Bool, true, false, ◌&&◌, T, List, [], ◌∷◌, length, get_or, take, nat_le}
use Rattle.std.specs.Prelude.{slice_index_or, Float}
use Rattle.std.proofs.Common.{le_of_suc-le-suc, not-suc-le-zero, arith, ap₂, sym, subst, ◌∙◌, leb-true, eqb-true, lit<, length-take-le}
use Rattle.std.proofs.Math.Path.{refl, ap}
use Rattle.std.specs.Float.Ieee.{nan, up, down, lt, eq, le, of_bits}
use Rattle.std.specs.Float.{inf, fin}
use Rattle.std.proofs.Math.Seq.{get_or-take}
use Rattle.num.specs.Const.{c0_0, c1_0}
use Rattle.num.specs.Laws.Bools.{both, false_true}
use Rattle.num.specs.Laws.Order.{tests_le}
use Rattle.num.specs.Laws.Within.{within_plus, zero_value}
use Rattle.num.specs.Ranges.{within}
use Rattle.passes.specs.Arith.{Arith}
use Rattle.passes.specs.ColorCorrection.{curved, in_unit, all_in_unit, good_curve, start, colour, color_correction}
use Rattle.passes.specs.Laws.Painted.{converted_ext}
use Rattle.passes.specs.Pixel.{by_number}

-- ---- a curve that can be read

unit-within : (x : Float) → in_unit x ≡ true → T (within 1 x)
unfolding in_unit le lt eq within of_bits
unit-within nan h = false_true h
unit-within (inf false) h = false_true h
unit-within (inf true) h = false_true h
unit-within (fin false m e) h =
    within_plus 1 m e
    (let l : m * up e * 1 ≤ 1 * down e =
    tests_le (m * up e * 1) (1 * down e) true (subst T (sym (both (le c0_0 (fin false m e)) (le (fin false m e) c1_0) h).1) tt) in omega arith)
unit-within (fin true m e) h =
    zero_value 1 (fin true m e) true 1 (lit< tt)
    (refl, (let l : 0 * down e ≡ m * up e * 1 = eqb-true (0 * down e) (m * up e * 1) (both _ _ (both _ _ h).0).0 in omega arith))

all_within : (xs : List Float) → all_in_unit xs ≡ true → (k : ℕ) → k < length xs → T (within 1 (slice_index_or xs k nan))
unfolding all_in_unit
all_within [] h k l = absurd (not-suc-le-zero l)
all_within (x ∷ xs) h zero l = unit-within x (both (in_unit x) (all_in_unit xs) h).0
all_within (x ∷ xs) h (suc k) l = all_within xs (both (in_unit x) (all_in_unit xs) h).1 k (le_of_suc-le-suc l)

pub curve_long : (curve : List Float) → good_curve curve ≡ true → 256 ≤ length curve
unfolding good_curve
curve_long curve h = leb-true 256 (length curve) (both (nat_le 256 (length curve)) (all_in_unit (take 256 curve)) h).0

pub curve_within : (curve : List Float) → good_curve curve ≡ true → (k : ℕ) → k < 256 → T (within 1 (slice_index_or curve k nan))
unfolding good_curve
curve_within curve h k l =
    subst (λ (x : Float). T (within 1 x)) (get_or-take 256 curve k nan l)
    (all_within (take 256 curve) (both (nat_le 256 (length curve)) (all_in_unit (take 256 curve)) h).1 k
    (subst (λ (n : ℕ). k < n) (sym (length-take-le 256 curve (curve_long curve h))) l))

-- ---- two curves with the same first 256 words

pub same_good : (curve other : List Float) → length curve ≡ length other → (256 ≤ length curve → take 256 curve ≡ take 256 other)
    → good_curve curve ≡ good_curve other
unfolding good_curve
same_good curve other long same = go (nat_le 256 (length curve)) refl
  where
    go : (b : Bool) → nat_le 256 (length curve) ≡ b
        → (nat_le 256 (length curve) && all_in_unit (take 256 curve)) ≡ (nat_le 256 (length other) && all_in_unit (take 256 other))
    go true e = ap₂ (λ (n : ℕ) (xs : List Float). nat_le 256 n && all_in_unit xs) long (same (leb-true 256 (length curve) e))
    go false e = rw (sym long, e)

module _ (A : Arith) (curve other : List Float) (gamma : Float) (same : curved gamma ≡ true → take 256 curve ≡ take 256 other) where
  starts_same : (k : ℕ) → k < 256 → start A curve gamma k ≡ start A other gamma k
  unfolding start
  starts_same k l = go (curved gamma) refl
    where
      go : (b : Bool) → curved gamma ≡ b → start A curve gamma k ≡ start A other gamma k
      go true e =
          rw e
          (ap A.lit (sym (get_or-take 256 curve k nan l) ∙ ap (λ (xs : List Float). get_or xs k nan) (same e) ∙ get_or-take 256 other k nan l))
      go false e = rw e

  pub color_correction_same : (brightness contrast saturation : A.F) (frame : List ℕ)
      → color_correction A curve brightness contrast saturation gamma frame ≡ color_correction A other brightness contrast saturation gamma frame
  unfolding color_correction colour
  color_correction_same brightness contrast saturation frame =
      converted_ext _ _ frame _ _ (λ i p l. coloured p)
    where
      begun : (p : ℕ) → by_number A (start A curve gamma) p ≡ by_number A (start A other gamma) p
      begun p =
          let red = starts_same (p / 65536 % 256) (omega arith) in
          let green = starts_same (p / 256 % 256) (omega arith) in
          let blue = starts_same (p % 256) (omega arith) in
          cc

      coloured : (p : ℕ) → colour A (start A curve gamma) brightness contrast saturation p ≡ colour A (start A other gamma) brightness contrast saturation p
      coloured p = rw (begun p)
