-- Decimal digits and numbers: those of a number write it, and no others do. Powers of 2, 5 and 10 beside one another. Assumes nothing.
use Rattle.std.specs.Prelude.{ℕ, zero, suc, ◌+◌, ◌*◌, ◌/◌, ◌%◌, ◌^◌, ◌≤◌, ◌<◌, ◌≡◌, refl, List, [], ◌∷◌, length, get_or}
use Rattle.std.proofs.Common.{sym, ap, ap₂, ◌∙◌, subst, pow-suc, mul_assoc, mul_right_comm, mul-le-mul, le_of_lt, lt_of_le_of_lt, arith, lit<}
use Rattle.std.proofs.Math.Nat.{pow-zero, pow-le-pow_right}
use Rattle.inspect.specs.Decimal.{number, Digits, spelled}

-- ## The digits of a number

pub spelled-number : (k m : ℕ) → m < 10 ^ k → number (spelled k m) ≡ m
unfolding spelled number
spelled-number zero m h = omega arith
spelled-number (suc k) m h =
    let p : m < 10 ^ k * 10 = subst (λ (n : ℕ). m < n) (pow-suc 10 k) h in
    omega (arith, spelled-number k (m / 10) (omega arith))

spelled-each : (k m i : ℕ) → get_or (spelled k m) i 0 < 10
unfolding spelled
spelled-each zero m i = omega arith
spelled-each (suc k) m zero = omega arith
spelled-each (suc k) m (suc i) = spelled-each k (m / 10) i

spelled-length : (k m : ℕ) → length (spelled k m) ≡ k
unfolding spelled
spelled-length zero m = refl
spelled-length (suc k) m = ap suc (spelled-length k (m / 10))

pub spelled-digits : (m : ℕ) → Digits (spelled 150 m)
spelled-digits m = record { long = spelled-length 150 m; each = spelled-each 150 m }

-- ## Digits are those of the number that they write

spelled_back : (ds : List ℕ) → ((i : ℕ) → get_or ds i 0 < 10) → ds ≡ spelled (length ds) (number ds)
unfolding spelled number
spelled_back [] h = refl
spelled_back (d ∷ ds) h =
    let n = number ds in
    ap₂ (λ (x : ℕ) (xs : List ℕ). x ∷ xs) (last d n (h 0)) (spelled_back ds (λ i. h (suc i)) ∙ ap (spelled (length ds)) (rest d n (h 0)))
  where
    last : (d n : ℕ) → d < 10 → d ≡ (d + 10 * n) % 10
    last d n h = omega arith

    rest : (d n : ℕ) → d < 10 → n ≡ (d + 10 * n) / 10
    rest d n h = omega arith

pub digits_are : {ds : List ℕ} → Digits ds → ds ≡ spelled 150 (number ds)
digits_are {ds} d = spelled_back ds d.each ∙ ap (λ (k : ℕ). spelled k (number ds)) d.long

number_lt : (ds : List ℕ) → ((i : ℕ) → get_or ds i 0 < 10) → number ds < 10 ^ length ds
unfolding number
number_lt [] h = lit< tt
number_lt (d ∷ ds) h =
    subst (λ (n : ℕ). d + 10 * number ds < n) (sym (pow-suc 10 (length ds))) (step d (number ds) (10 ^ length ds) (h 0) (number_lt ds (λ i. h (suc i))))
  where
    step : (d n p : ℕ) → d < 10 → n < p → d + 10 * n < p * 10
    step d n p h l = omega arith

pub number-below : {ds : List ℕ} → Digits ds → number ds < 10 ^ 150
number-below {ds} d = subst (λ (k : ℕ). number ds < 10 ^ k) d.long (number_lt ds d.each)

-- ## Powers

pub ten : (p : ℕ) → 10 ^ p ≡ 2 ^ p * 5 ^ p
ten zero = simp pow-zero
ten (suc p) =
    let t = 2 ^ p in
    let f = 5 ^ p in
    pow-suc 10 p ∙ ap (λ (k : ℕ). k * 10) (ten p) ∙ regroup t f
    ∙ sym (ap (λ (k : ℕ). k * 5 ^ suc p) (pow-suc 2 p) ∙ ap (λ (k : ℕ). t * 2 * k) (pow-suc 5 p))
  where
    regroup : (t f : ℕ) → t * f * 10 ≡ t * 2 * (f * 5)
    regroup t f = sym (sym (mul_assoc (t * 2) f 5) ∙ ap (λ (k : ℕ). k * 5) (mul_right_comm t 2 f) ∙ mul_assoc (t * f) 2 5)

-- a significand with up to 149 places has fewer than 150 digits
pub fives_room : (m p : ℕ) → m < 2 ^ 24 → p ≤ 149 → m * 5 ^ p < 10 ^ 150
fives_room m p h k = lt_of_le_of_lt (mul-le-mul (le_of_lt h) (pow-le-pow_right (omega arith) k)) (lit< tt)
