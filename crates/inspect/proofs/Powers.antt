-- Powers beside a number: what one turn of a loop takes of them, how large they get, and how those of 2, 5 and 10 fit together. Assumes nothing.
use Prim.Native.Nat.{ℕ, zero, suc, ◌+◌, ◌-◌, ◌*◌, ◌/◌, ◌%◌, ◌^◌, ◌≤◌, ◌<◌}
use mathlib.Core.Path.{◌≡◌, refl, sym, ap, ◌∙◌, subst}
use native.Mathlib.Nat.{pow-suc, mul_assoc, mul_right_comm, mul-one, lt_of_le_of_lt, le_of_eq}
use native.Mathlib.Nat.{eq_of_mul-eq-mul_right, mul-le-mul, le_of_lt, pow-le-pow_right}
use native.Mathlib.Omega.{arith}
use lib.Arith.{digits_mod}
use lib.Dec.{lit<}
use native.Mathlib.Numerals.{add-one}
use lib.Pow.{pow-add}
use Rattle.inspect.specs.Laws.Digits.{ten, fives_room}

-- a turn that multiplies takes one factor more
pub more : (n by i : ℕ) → n * by ^ i * by ≡ n * by ^ (i + 1)
more n by i = mul_assoc n (by ^ i) by ∙ ap (λ (k : ℕ). n * k) (sym (pow-suc by i)) ∙ ap (λ (k : ℕ). n * by ^ k) (sym (add-one i))

-- while factors are left, there is room for the next
pub room : (n by i all p : ℕ) → i < all → 2 ≤ by → n * by ^ all < p → n * by ^ i * by < p
room n by i all p l b h =
    subst (λ (k : ℕ). k < p) (sym (more n by i)) (lt_of_le_of_lt (mul-le-mul (le_of_eq refl) (pow-le-pow_right (omega arith) (omega arith))) h)

-- one factor of a power, last
pub one_out : (n p : ℕ) → n * 2 ^ suc p ≡ n * 2 ^ p * 2
one_out n p = ap (λ (k : ℕ). n * k) (pow-suc 2 p) ∙ sym (mul_assoc n (2 ^ p) 2)

-- a turn that halves
pub halved : (m p n q : ℕ) → m * 2 ^ p ≡ n * 2 ^ q → 0 < q → m % 2 ≡ 0 → m / 2 * 2 ^ p ≡ n * 2 ^ (q - 1)
halved m p n zero e l even = absurd (omega arith)
halved m p n (suc q) e l even =
    let back : suc q - 1 ≡ q = omega arith in
    let twice : m / 2 * 2 ≡ m = omega arith in
    let whole : m / 2 * 2 ^ p * 2 ≡ n * 2 ^ q * 2 =
    mul_right_comm (m / 2) (2 ^ p) 2 ∙ ap (λ (k : ℕ). k * 2 ^ p) twice ∙ e ∙ one_out n q in
    ap (λ (k : ℕ). m / 2 * 2 ^ p) back ∙ eq_of_mul-eq-mul_right 2 (omega arith) (m / 2 * 2 ^ p) (n * 2 ^ q) whole ∙ ap (λ (k : ℕ). n * 2 ^ k) (sym back)

-- ## m * 2 ^ e units of 2 ^ -149, as a decimal number

-- no digit behind the point
pub above : (m e k n : ℕ) → 149 < e → k ≡ m → n ≡ k * 2 ^ (e - 149) → n * 2 ^ 149 ≡ m * 2 ^ e * 10 ^ 0
above m e k n l all same =
    let whole : e - 149 + 149 ≡ e = omega arith in
    ap (λ (k : ℕ). k * 2 ^ 149) (same ∙ ap (λ (k : ℕ). k * 2 ^ (e - 149)) all) ∙ mul_assoc m (2 ^ (e - 149)) (2 ^ 149) ∙ ap (λ (k : ℕ). m * k) (sym (pow-add 2 (e - 149) 149) ∙ ap (λ (k : ℕ). 2 ^ k) whole) ∙ sym (mul-one (m * 2 ^ e))

-- n / 2 ^ p is n * 5 ^ p / 10 ^ p
pub below : (m e n p k d : ℕ) → e ≤ 149 → n * 2 ^ (149 - e) ≡ m * 2 ^ p → k ≡ n → d ≡ k * 5 ^ p → d * 2 ^ 149 ≡ m * 2 ^ e * 10 ^ p
below m e n p k d l same all digits =
    let whole : 149 - e + e ≡ 149 = omega arith in
    let split : 2 ^ 149 ≡ 2 ^ (149 - e) * 2 ^ e = ap (λ (k : ℕ). 2 ^ k) (sym whole) ∙ pow-add 2 (149 - e) e in
    ap (λ (k : ℕ). k * 2 ^ 149) (digits ∙ ap (λ (k : ℕ). k * 5 ^ p) all) ∙ ap (λ (k : ℕ). n * 5 ^ p * k) split ∙ turned n (5 ^ p) (2 ^ (149 - e)) (2 ^ e)
    ∙ ap (λ (k : ℕ). k * 2 ^ e * 5 ^ p) same ∙ around m (2 ^ p) (2 ^ e) (5 ^ p) ∙ ap (λ (k : ℕ). m * 2 ^ e * k) (sym (ten p))
  where
    turned : (n f a b : ℕ) → n * f * (a * b) ≡ n * a * b * f
    turned n f a b = sym (mul_assoc (n * f) a b) ∙ ap (λ (k : ℕ). k * b) (mul_right_comm n f a) ∙ mul_right_comm (n * a) f b

    around : (m t e f : ℕ) → m * t * e * f ≡ m * e * (t * f)
    around m t e f = ap (λ (k : ℕ). k * f) (mul_right_comm m t e) ∙ mul_assoc (m * e) t f

-- both have fewer than 150 digits
pub high_room : (n m e : ℕ) → n ≡ m → m < 2 ^ 24 → e ≤ 253 → n * 2 ^ (e - 149) < 10 ^ 150
high_room n m e same l h = lt_of_le_of_lt (mul-le-mul (le_of_lt (subst (λ (k : ℕ). k < 2 ^ 24) (sym same) l)) (pow-le-pow_right (omega arith) (left e h))) (lit< tt)
  where
    left : (e : ℕ) → e ≤ 253 → e - 149 ≤ 104
    left e h = omega arith

pub low_room : (d n m p : ℕ) → d ≡ n → n ≤ m → m < 2 ^ 24 → p ≤ 149 → d * 5 ^ p < 10 ^ 150
low_room d n m p same l h k = fives_room d p (small d n m same l h) k
  where
    small : (d n m : ℕ) → d ≡ n → n ≤ m → m < 2 ^ 24 → d < 2 ^ 24
    small d n m same l h = omega arith

-- ## Odd numbers

pub odd_fives : (n p : ℕ) → n % 2 ≡ 1 → n * 5 ^ p % 2 ≡ 1
odd_fives n zero o = ap (λ (k : ℕ). k % 2) (mul-one n) ∙ o
odd_fives n (suc p) o = ap (λ (k : ℕ). k % 2) (ap (λ (k : ℕ). n * k) (pow-suc 5 p) ∙ sym (mul_assoc n (5 ^ p) 5)) ∙ five (n * 5 ^ p) (odd_fives n p o)
  where
    five : (k : ℕ) → k % 2 ≡ 1 → k * 5 % 2 ≡ 1
    five k o =
        let spread : k * 5 ≡ (k / 2 * 5 + 2) * 2 + 1 = omega arith in
        ap (λ (z : ℕ). z % 2) spread ∙ digits_mod (k / 2 * 5 + 2) {m = 2} {r = 1} (lit< tt)

pub never_even : (n k : ℕ) → n % 2 ≡ 1 → n ≡ k * 2 → ⊥
never_even n k o e = omega arith

-- an odd number times a power of two is so in one way
pub odd_pow : (m n a b : ℕ) → m % 2 ≡ 1 → n % 2 ≡ 1 → m * 2 ^ a ≡ n * 2 ^ b → (m ≡ n) × (a ≡ b)
odd_pow m n zero zero o p e = (sym (mul-one m) ∙ e ∙ mul-one n, refl)
odd_pow m n zero (suc b) o p e = absurd (never_even m (n * 2 ^ b) o (sym (mul-one m) ∙ e ∙ one_out n b))
odd_pow m n (suc a) zero o p e = absurd (never_even n (m * 2 ^ a) p (sym (mul-one n) ∙ sym e ∙ one_out m a))
odd_pow m n (suc a) (suc b) o p e =
    let r = odd_pow m n a b o p (eq_of_mul-eq-mul_right 2 (omega arith) (m * 2 ^ a) (n * 2 ^ b) (sym (one_out m a) ∙ e ∙ one_out n b)) in (r.0, ap suc r.1)
