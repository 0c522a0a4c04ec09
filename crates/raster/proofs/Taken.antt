-- What a reader took: its tests did not refuse, and it stayed inside the bytes. Assumes nothing.
use Prim.Native.Nat.{ℕ, ◌+◌, ◌*◌, ◌≤◌, ◌<◌}
use mathlib.Core.Path.{◌≡◌, refl, subst}
use mathlib.Core.Bool.{Bool, true, false, cond, ◌||◌}
use mathlib.Core.List.{List}
use native.Mathlib.Omega.{arith}
use borrow.Author.Tests.{leb-false, ltb-false, eqb-false}
use lib.Dec.{leb, ltb, eqb}
use lib.ListN.{length, drop}
use Rattle.num.specs.Laws.Bools.{neither}
use Rattle.raster.specs.Step.{Step, took, refused, Reader, and_then, refuse_if}
use Rattle.raster.specs.Ppm.{Parsed, Frame, Refused, header_cut, bad_header, value_of, digits_end, gap_in, digits_in, number_in, Size, header_in, frame_in, parsed_of, parse_of}
use Rattle.raster.specs.Claims.{Whole, TakenWhole}

unrefused : {A : Type 0} (b : Bool) (k : ℕ) (s : Step A) (v : A) (n : ℕ) → cond b (refused k) s ≡ took v n → (b ≡ false) × (s ≡ took v n)
unrefused true k s v n h = let z : ◌≡◌ {A = ℕ} 0 1 = cc in absurd (omega arith)
unrefused false k s v n h = (refl, h)

-- a reader after another: what each took
record Both {A B : Type 0} (s : Step A) (f : A → Reader B) (b : B) (n : ℕ) : Type 0 where
  value : A
  next : ℕ
  first : s ≡ took value next
  rest : f value next ≡ took b n

both : {A B : Type 0} (s : Step A) (f : A → Reader B) (b : B) (n : ℕ) → and_then s f ≡ took b n → Both s f b n
both (took a m) f b n h = record { value = a; next = m; first = refl; rest = h }
both (refused k) f b n h = let z : ◌≡◌ {A = ℕ} 0 1 = cc in absurd (omega arith)

passed : {B : Type 0} (k : ℕ) (t : Bool) (at : ℕ) (f : Unit {0} → Reader B) (b : B) (n : ℕ) → and_then (refuse_if k t at) f ≡ took b n → (t ≡ false) × (f tt at ≡ took b n)
unfolding refuse_if
passed k true at f b n h = let z : ◌≡◌ {A = ℕ} 0 1 = cc in absurd (omega arith)
passed k false at f b n h = (refl, h)

-- a byte stands after the digits, so the pixels start inside the bytes or at their end
digits-inside : (bytes : List ℕ) (at v n : ℕ) → digits_in bytes at ≡ took v n → n < length bytes
unfolding digits_in
digits-inside bytes at v n h =
    let end = digits_end bytes at in
    let inside = unrefused (leb (length bytes) end) header_cut (cond (eqb end at) (refused bad_header) (took (value_of 0 (drop at bytes)) end)) v n h in
    let last : took (value_of 0 (drop at bytes)) end ≡ took v n = (unrefused (eqb end at) bad_header _ v n inside.1).1 in
    let same : end ≡ n = cc in
    omega (arith, leb-false (length bytes) end inside.0)

pub number_inside : (bytes : List ℕ) (at v n : ℕ) → number_in bytes at ≡ took v n → n < length bytes
unfolding number_in
number_inside bytes at v n h = let digits = both (gap_in bytes at) _ v n h in digits-inside bytes digits.next v n digits.rest

pub header_inside : (bytes : List ℕ) (s : Size) (n : ℕ) → header_in bytes 0 ≡ took s n → n ≤ length bytes
unfolding header_in
header_inside bytes s n h =
    let start = (passed {B = Size} _ _ _ _ s n (passed {B = Size} _ _ _ _ s n h).1).1 in
    let width = both (number_in bytes 2) _ s n start in
    let height = both (number_in bytes width.next) _ s n width.rest in
    let maximum = both (number_in bytes height.next) _ s n height.rest in
    let last = (passed {B = Size} _ _ _ _ s n (passed {B = Size} _ _ _ _ s n maximum.rest).1).1 in
    let same : maximum.next + 1 ≡ n = cc in
    omega (arith, number_inside bytes height.next _ maximum.next maximum.first)

-- ## A frame that is taken

-- no test refused it
whole : (most : ℕ) (bytes : List ℕ) (w h start : ℕ) → (eqb w 0 || eqb h 0) ≡ false → (ltb 1024 w || (ltb 1024 h || ltb most (h * w))) ≡ false
    → ltb (length bytes) (start + 3 * (h * w)) ≡ false → ltb (start + 3 * (h * w)) (length bytes) ≡ false → Whole most bytes w h start
whole most bytes w h start sides fits there ends =
    let zero = neither (eqb w 0) (eqb h 0) sides in
    let wide = neither (ltb 1024 w) (ltb 1024 h || ltb most (h * w)) fits in
    let high = neither (ltb 1024 h) (ltb most (h * w)) wide.1 in
    record {
      some-width = omega (arith, eqb-false w 0 zero.0);
      some-height = omega (arith, eqb-false h 0 zero.1);
      small_width = ltb-false _ _ wide.0;
      small-height = ltb-false _ _ high.0;
      few = ltb-false _ _ high.1;
      ends = omega (arith, ltb-false (length bytes) (start + 3 * (h * w)) there, ltb-false (start + 3 * (h * w)) (length bytes) ends);
    }

-- whatever an answer takes is whole
abbrev Fine : ℕ → List ℕ → Parsed → Type 0
Fine most bytes (Frame w h start) = Whole most bytes w h start
Fine most bytes (Refused k) = Unit

frame_whole : (most : ℕ) (bytes : List ℕ) (s : Size) (start : ℕ) → frame_in most bytes 0 ≡ took s start → Fine most bytes (parsed_of (took s start))
unfolding frame_in
frame_whole most bytes s start h =
    let header = both (header_in bytes 0) _ s start h in
    let sides = passed {B = Size} _ _ _ _ s start header.rest in
    let fits = passed {B = Size} _ _ _ _ s start sides.1 in
    let there = passed {B = Size} _ _ _ _ s start fits.1 in
    let ends = passed {B = Size} _ _ _ _ s start there.1 in
    subst (λ (p : Step Size). Fine most bytes (parsed_of p)) ends.1
    (whole most bytes header.value.width header.value.height header.next sides.0 fits.0 there.0 ends.0)

pub taken-whole : TakenWhole
unfolding parse_of
taken-whole most bytes w h start e = subst (Fine most bytes) e (go (frame_in most bytes 0) refl)
  where
    go : (s : Step Size) → frame_in most bytes 0 ≡ s → Fine most bytes (parsed_of s)
    go (took s n) g = frame_whole most bytes s n g
    go (refused k) g = tt
