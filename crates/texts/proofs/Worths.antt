-- Digits: what they are worth read one after another, and laid down the last place first. Assumes nothing.
use Prim.Native.Nat.{ℕ, zero, suc, ◌+◌, ◌-◌, ◌*◌, ◌^◌, ◌≤◌, ◌<◌}
use mathlib.Core.Bool.{Bool, true, false, cond, ◌&&◌}
use mathlib.Core.List.{List, [], ◌∷◌, ◌++◌}
use mathlib.Core.Path.{◌≡◌, refl, sym, ap, ◌∙◌, subst}
use native.Mathlib.Nat.{add-mul, mul_assoc, mul_right_comm, pow-suc, pow-le-pow_right}
use native.Mathlib.Numerals.{add-one}
use native.Mathlib.Omega.{arith}
use borrow.Author.Tests.{leb-true}
use lib.Dec.{leb, lit<}
use lib.Ieee.{binary32, round}
use lib.Ieee.Scale.{round_same}
use lib.ListN.{length, get_or, set, take, drop, length-set, drop_of_length-le}
use lib.Pow.{pow-add}
use lib.Seq.{drop-cons, drop-set-lt, take-suc, take_all}
use Rattle.inspect.specs.Decimal.{number, Digits}
use Rattle.texts.specs.Numbers.{digit, worth}
use Rattle.texts.proofs.Fronts.{at_front}

-- ## Read one after another

pub record Worth (digits : List ℕ) (v i : ℕ) : Type 0 where
  pub left : worth 0 digits ≡ worth v (drop i digits)
  pub small : v < 10 ^ i
  pub within : i ≤ length digits

pub worth_none : (digits : List ℕ) → Worth digits 0 0
worth_none digits = record { left = refl; small = lit< tt; within = omega arith }

module _ {digits : List ℕ} {v i : ℕ} (t : Worth digits v i) (short : length digits ≤ 7) where
  pub worth_more : {d : ℕ} → i < length digits → (d ≡ digit (get_or digits i 0)) × (d ≤ 9) → Worth digits (v * 10 + d) (i + 1)
  unfolding worth
  worth_more {d} l e =
      let next : worth v (drop i digits) ≡ worth (v * 10 + d) (drop (i + 1) digits)
      = ap (worth v) (at_front digits i l) ∙ ap (λ (k : ℕ). worth (v * 10 + k) (drop (i + 1) digits)) (sym e.0) in
      let ten : 10 ^ (i + 1) ≡ 10 ^ i * 10 = ap (λ (k : ℕ). 10 ^ k) (add-one i) ∙ pow-suc 10 i in
      record { left = t.left ∙ next; small = omega (arith, t.small, e.1, ten); within = omega arith }

  pub room : i < length digits → v < 10 ^ 6
  room l = let most : 10 ^ i ≤ 10 ^ 6 = pow-le-pow_right {n = 10} (lit< tt) {i = i} {j = 6} (omega arith) in omega (arith, t.small, most)

  pub worth_all : length digits ≤ i → (v ≡ worth 0 digits) × (v < 2 ^ 24)
  unfolding worth
  worth_all l =
      let most : 10 ^ i ≤ 10 ^ 7 = pow-le-pow_right {n = 10} (lit< tt) {i = i} {j = 7} (omega (arith, t.within)) in
      (sym (t.left ∙ ap (worth v) (drop_of_length-le digits l)), omega (arith, t.small, most))

-- ## What they are worth in parts

pub worth-append : (v : ℕ) (xs ys : List ℕ) → worth v (xs ++ ys) ≡ worth (worth v xs) ys
unfolding worth
worth-append v [] ys = refl
worth-append v (x ∷ xs) ys = worth-append (v * 10 + digit x) xs ys

pub worth-shift : (v : ℕ) (ys : List ℕ) → worth v ys ≡ v * 10 ^ length ys + worth 0 ys
unfolding worth
worth-shift v [] = omega arith
worth-shift v (y ∷ ys) =
    let d = digit y in
    let p = 10 ^ length ys in
    let ten : 10 ^ suc (length ys) ≡ p * 10 = pow-suc 10 (length ys) in
    let one : (v * 10 + d) * p ≡ v * 10 * p + d * p = add-mul (v * 10) d p in
    let same : v * 10 * p ≡ v * (p * 10) = mul_right_comm v 10 p ∙ mul_assoc v p 10 in
    worth-shift (v * 10 + d) ys ∙ rw ten (omega (arith, one, same, worth-shift (0 * 10 + d) ys, worth-shift d ys))

-- ## Laid down the last place first

-- the first i digits, the last of them first; 0 past the end
unfoldable pub backs : ℕ → List ℕ → List ℕ
backs zero fs = []
backs (suc i) fs = digit (get_or fs i 0) ∷ backs i fs

pub record Laid (fs out : List ℕ) (i : ℕ) : Type 0 where
  pub long : length out ≡ 150
  pub within : i ≤ 150
  pub done : drop (150 - i) out ≡ backs i fs

pub laid_none : (fs out : List ℕ) → length out ≡ 150 → Laid fs out 0
unfolding backs
laid_none fs out l = record { long = l; within = omega arith; done = drop_of_length-le out {i = 150} (omega (arith, l)) }

get_d_set : (l : List ℕ) (i a : ℕ) → i < length l → get_or (set l i a) i 0 ≡ a
get_d_set [] i a h = absurd (omega (arith, h))
get_d_set (x ∷ l) zero a h = refl
get_d_set (x ∷ l) (suc i) a h = get_d_set l i a (omega (arith, h))

pub laid_more : {fs out : List ℕ} {i d : ℕ} → Laid fs out i → i < 150 → (d ≡ digit (get_or fs i 0)) × (d ≤ 9) → Laid fs (set out (149 - i) d) (i + 1)
unfolding backs
laid_more {fs} {out} {i} {d} t l e =
    let k = 149 - i in
    let inside : k < length out = omega (arith, t.long) in
    let inside' : k < length (set out k d) = omega (arith, length-set out k d) in
    let at : 150 - (i + 1) ≡ k = omega arith in
    let past : suc k ≡ 150 - i = omega arith in
    let opened : drop k (set out k d) ≡ d ∷ drop (150 - i) out
    = drop-cons (set out k d) k 0 inside' ∙ ap (λ (x : ℕ). x ∷ drop (suc k) (set out k d)) (get_d_set out k d inside)
    ∙ ap (λ (xs : List ℕ). d ∷ xs) (drop-set-lt (suc k) out k d (omega arith) ∙ ap (λ (n : ℕ). drop n out) past) in
    record {
      long = length-set out k d ∙ t.long;
      within = omega arith;
      done = ap (λ (n : ℕ). drop n (set out k d)) at ∙ opened ∙ ap (λ (xs : List ℕ). d ∷ xs) t.done
          ∙ rw (add-one i) (ap (λ (x : ℕ). x ∷ backs i fs) e.0);
    }

digit-small : (b : ℕ) → digit b < 10
digit-small b = go (leb 48 b) (leb b 57) refl
  where
    go : (t u : Bool) → leb b 57 ≡ u → cond (t && u) (b - 48) 0 < 10
    go true true e = omega (arith, leb-true b 57 e)
    go true false e = omega arith
    go false u e = omega arith

backs-each : (i : ℕ) (fs : List ℕ) (j : ℕ) → get_or (backs i fs) j 0 < 10
unfolding backs
backs-each zero fs j = omega arith
backs-each (suc i) fs zero = digit-small (get_or fs i 0)
backs-each (suc i) fs (suc j) = backs-each i fs j

-- those that are there
backs-number : (i : ℕ) (fs : List ℕ) → i ≤ length fs → number (backs i fs) ≡ worth 0 (take i fs)
unfolding backs number worth
backs-number zero fs l = refl
backs-number (suc i) fs l =
    ap (λ (n : ℕ). digit (get_or fs i 0) + 10 * n) (backs-number i fs (omega (arith, l)))
    ∙ sym (ap (worth 0) (take-suc fs i 0 l) ∙ worth-append 0 (take i fs) (get_or fs i 0 ∷ []) ∙ omega arith)

pub get_d_past : (fs : List ℕ) (i : ℕ) → length fs ≤ i → get_or fs i 0 ≡ 0
get_d_past [] i l = refl
get_d_past (x ∷ fs) zero l = absurd (omega (arith, l))
get_d_past (x ∷ fs) (suc i) l = get_d_past fs i (omega (arith, l))

-- and those past the end
backs-zeros : (k : ℕ) (fs : List ℕ) → number (backs (k + length fs) fs) ≡ worth 0 fs * 10 ^ k
unfolding backs number
backs-zeros zero fs =
    let none : 0 + length fs ≡ length fs = omega arith in
    let all : number (backs (length fs) fs) ≡ worth 0 fs = backs-number (length fs) fs (omega arith) ∙ ap (worth 0) (take_all (length fs) fs (omega arith)) in
    ap (λ (n : ℕ). number (backs n fs)) none ∙ all ∙ omega arith
backs-zeros (suc k) fs =
    let more : suc k + length fs ≡ suc (k + length fs) = omega arith in
    let p = 10 ^ k in
    let ten : 10 ^ suc k ≡ p * 10 = pow-suc 10 k in
    let same : worth 0 fs * (p * 10) ≡ worth 0 fs * p * 10 = sym (mul_assoc (worth 0 fs) p 10) in
    ap (λ (n : ℕ). number (backs n fs)) more
    ∙ ap (λ (b : ℕ). digit b + 10 * number (backs (k + length fs) fs)) (get_d_past fs (k + length fs) (omega arith))
    ∙ rw ten (omega (arith, backs-zeros k fs, same))

pub laid_all : {fs out : List ℕ} {i : ℕ} → Laid fs out i → 150 ≤ i → length fs ≤ 150 → Digits out × (number out ≡ worth 0 fs * 10 ^ (150 - length fs))
laid_all {fs} {out} {i} t l short =
    let all : i ≡ 150 = omega (arith, t.within) in
    let none : 150 - i ≡ 0 = omega arith in
    let parts : i ≡ 150 - length fs + length fs = omega arith in
    let is : out ≡ backs i fs = ap (λ (n : ℕ). drop n out) (sym none) ∙ t.done in (
      record { long = t.long; each = λ j. subst (λ (xs : List ℕ). get_or xs j 0 < 10) (sym is) (backs-each i fs j) },
      ap number is ∙ ap (λ (n : ℕ). number (backs n fs)) parts ∙ backs-zeros (150 - length fs) fs,
    )

-- ## The binary32 nearest to both parts

pub both_parts : (s : Bool) (ws fs ds : List ℕ) (w : ℕ) → length fs ≤ 150 → w ≡ worth 0 ws → number ds ≡ worth 0 fs * 10 ^ (150 - length fs)
    → round binary32 s (w * 10 ^ 150 + number ds) (10 ^ 150) ≡ round binary32 s (worth 0 (ws ++ fs)) (10 ^ length fs)
both_parts s ws fs ds w short e f =
    let n = length fs in
    let v = worth 0 fs in
    let p = 10 ^ 150 in
    let q = 10 ^ (150 - n) in
    let r = 10 ^ n in
    let all : 150 ≡ 150 - n + n = omega arith in
    let whole : p ≡ q * r = ap (λ (k : ℕ). 10 ^ k) all ∙ pow-add 10 (150 - n) n in
    let sum : worth 0 (ws ++ fs) ≡ w * r + v = worth-append 0 ws fs ∙ worth-shift (worth 0 ws) fs ∙ ap (λ (k : ℕ). k * r + v) (sym e) in
    round_same binary32 s (w * p + number ds) p (worth 0 (ws ++ fs)) r (lit< tt) (positive n)
    (ap (λ (k : ℕ). (w * p + k) * r) f ∙ add-mul (w * p) (v * q) r ∙ ap (λ (k : ℕ). w * p * r + k) (mul_assoc v q r ∙ ap (λ (k : ℕ). v * k) (sym whole))
    ∙ ap (λ (k : ℕ). k + v * p) (mul_right_comm w p r) ∙ sym (add-mul (w * r) v p) ∙ ap (λ (k : ℕ). k * p) (sym sum))
  where
    positive : (n : ℕ) → 0 < 10 ^ n
    positive n = pow-le-pow_right {n = 10} (lit< tt) {i = 0} {j = n} (omega arith)
