-- Bytes of a gap and digits, counted one by one: a loop that is at the place i. Assumes nothing.
use Prim.Native.Nat.{ℕ, ◌+◌, ◌-◌, ◌≤◌, ◌<◌}
use mathlib.Core.Path.{◌≡◌, sym, ap, ◌∙◌}
use mathlib.Core.Bool.{Bool, true, false}
use mathlib.Core.List.{List, ◌∷◌}
use native.Mathlib.Numerals.{add-one}
use native.Mathlib.Omega.{arith}
use borrow.Author.Tests.{leb-true}
use lib.Dec.{leb}
use lib.ListN.{length, get_or, drop, drop_of_length-le}
use lib.Seq.{drop-cons}
use Rattle.num.specs.Laws.Bools.{both}
use Rattle.raster.specs.Ppm.{in_gap, in_comment, is_digit, grow, gap_of, digits_of, value_of}

-- what is counted is what was passed and what is left
pub record Gap (bytes : List ℕ) (comment : Bool) (i : ℕ) : Type 0 where
  pub count : gap_of false bytes ≡ i + gap_of comment (drop i bytes)

pub record Digits (bytes : List ℕ) (value i : ℕ) : Type 0 where
  pub whole : value_of 0 bytes ≡ value_of value (drop i bytes)
  pub count : digits_of bytes ≡ i + digits_of (drop i bytes)

module _ (bytes : List ℕ) (i : ℕ) (l : i < length bytes) where
  front : drop i bytes ≡ get_or bytes i 0 ∷ drop (i + 1) bytes
  front = drop-cons bytes i 0 l ∙ ap (λ (k : ℕ). get_or bytes i 0 ∷ drop k bytes) (sym (add-one i))

-- the code's answer to a test, and the branch by it
told : {r a b : Bool} → r ≡ a → r ≡ b → a ≡ b
told e h = sym e ∙ h

module _ {bytes : List ℕ} {comment : Bool} {i : ℕ} (t : Gap bytes comment i) where
  pub gap_more : {r s : Bool} → i < length bytes → r ≡ in_gap comment (get_or bytes i 0) → r ≡ true → s ≡ in_comment comment (get_or bytes i 0) → Gap bytes s (i + 1)
  unfolding gap_of
  gap_more l e h f = record { count = t.count ∙ rw (front bytes i l, told e h, f) (omega arith) }

  pub gap_stops : {r : Bool} → i < length bytes → r ≡ in_gap comment (get_or bytes i 0) → r ≡ false → (i ≡ gap_of false bytes) × (i ≤ length bytes)
  unfolding gap_of
  gap_stops l e h = (sym (t.count ∙ rw (front bytes i l, told e h) (omega arith)), omega arith)

  pub gap_ends : length bytes ≤ i → i ≤ length bytes → (length bytes ≡ gap_of false bytes) × (length bytes ≤ length bytes)
  unfolding gap_of
  gap_ends l m = let passed : gap_of false bytes ≡ i = t.count ∙ rw (drop_of_length-le bytes l) (omega arith) in (omega arith, omega arith)

-- a digit's place among the bytes
pub digit-within : {r : Bool} (b : ℕ) → r ≡ is_digit b → r ≡ true → (48 ≤ b) × (b - 48 ≤ 9)
digit-within b e h =
    let digit = both (leb 48 b) (leb b 57) (told e h) in
    (leb-true 48 b digit.0, omega (arith, leb-true b 57 digit.1))

module _ {bytes : List ℕ} {value i : ℕ} (t : Digits bytes value i) where
  pub digits_more : {r : Bool} {v : ℕ} → i < length bytes → r ≡ is_digit (get_or bytes i 0) → r ≡ true → v ≡ grow value (get_or bytes i 0 - 48) → Digits bytes v (i + 1)
  unfolding digits_of value_of
  digits_more l e h f = record { whole = t.whole ∙ rw (front bytes i l, told e h, f); count = t.count ∙ rw (front bytes i l, told e h) (omega arith) }

  pub digits_stop : {r : Bool} → i < length bytes → r ≡ is_digit (get_or bytes i 0) → r ≡ false → (value ≡ value_of 0 bytes) × (i ≡ digits_of bytes) × (i ≤ length bytes)
  unfolding digits_of value_of
  digits_stop l e h = (sym (t.whole ∙ rw (front bytes i l, told e h)), sym (t.count ∙ rw (front bytes i l, told e h) (omega arith)), omega arith)

  pub digits_ended : length bytes ≤ i → i ≤ length bytes → (value ≡ value_of 0 bytes) × (length bytes ≡ digits_of bytes) × (length bytes ≤ length bytes)
  unfolding digits_of value_of
  digits_ended l m =
      let passed : digits_of bytes ≡ i = t.count ∙ rw (drop_of_length-le bytes l) (omega arith) in
      (sym (t.whole ∙ rw (drop_of_length-le bytes l)), omega arith, omega arith)
