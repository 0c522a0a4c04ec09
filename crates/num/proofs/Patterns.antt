-- Bit patterns of binary32: what pattern a value of 24 digits has, what number a positive finite pattern stands for, and which patterns are
-- finite with the sign clear. A unit is the format's smallest value, 2 ^ -149. Assumes nothing.
use mathlib.Core.Path.{◌≡◌, refl, sym, ap, ◌∙◌, subst}
use mathlib.Core.Logic.{◌⊎◌, inl, inr}
use Prim.Native.Nat.{ℕ, zero, suc, ◌+◌, ◌-◌, ◌*◌, ◌/◌, ◌%◌, ◌^◌, ◌≤◌, ◌<◌}
use native.Mathlib.Nat.{le_trans, le_of_eq, le_antisymm, lt_of_lt_of_le, lt_of_le_of_lt, lt_of_not-le, not-le_of_lt, eq-or-lt_of_le, mul_assoc, mul-le-mul}
use native.Mathlib.Nat.{mul-le-mul_right, mul-lt-mul_of_pos_right, mul-div_cancel, mod-eq_of_lt, div-eq_of_lt}
use native.Mathlib.Omega.{arith}
use mathlib.Core.Bool.{Bool, true, false, not, cond, true≢false}
use lib.Dec.{T, leb, eqb, lit<, lit≤}
use lib.Pow.{pow-add, pow_pos, pow_mono, shl-shr}
use lib.Ieee.{Float, nan, inf, fin, binary32, down, size, odd, units, of_fields, of_bits, to_bits, nan_bits}
use lib.Ieee.Digits.{size-lt, size-le}
use lib.Ieee.Fits.{odd-fits, down_pos}
use lib.Ieee.Bits.{of_bits-to_bits, nan_bits_above}
use lib.Ieee.Exact.{HasValue, odd_sign}
use borrow.Author.Tests.{lt-ltb, le-ltb, lt-leb, ne_eqb, leb-false}

-- the digits of a number from 2 ^ a up to 2 ^ (a + 1)
pub size_is : (a n : ℕ) → 2 ^ a ≤ n → n < 2 ^ suc a → size n ≡ suc a
size_is a n lo hi =
    le_antisymm (size-le n (suc a) hi) (lt_of_not-le (λ (g : size n ≤ a). not-le_of_lt (lt_of_lt_of_le (size-lt n) (pow_mono g)) lo))

-- ---- the pattern of R * 2 ^ k units

pub pattern-is : (x : Float) (a : ℕ) → HasValue x false a (2 ^ 149) → to_bits binary32 x ≡ (size a - 24) * 2 ^ 23 + a / 2 ^ (size a - 24)
unfolding to_bits
pattern-is nan a h = absurd h
pattern-is (inf s) a h = absurd h
pattern-is (fin true m e) a h = absurd (true≢false h.0)
pattern-is (fin false m e) a h =
    ap (λ (n : ℕ). 0 + (size n - 24) * 2 ^ 23 + n / 2 ^ (size n - 24)) (ap (λ (y : ℕ). y / down e) h.1 ∙ mul-div_cancel a (down_pos e))
    ∙ plain ((size a - 24) * 2 ^ 23) (a / 2 ^ (size a - 24))
  where
    plain : (y z : ℕ) → 0 + y + z ≡ y + z
    plain y z = omega arith

-- all 24 digits
full : (x : Float) (S j : ℕ) → 2 ^ 23 ≤ S → S < 2 ^ 24 → HasValue x false (S * 2 ^ j) (2 ^ 149) → to_bits binary32 x ≡ j * 2 ^ 23 + S
full x S j lo hi h =
    let e : 24 + j ≡ suc (23 + j) = omega arith in
    let z : size (S * 2 ^ j) ≡ suc (23 + j) =
    size_is (23 + j) (S * 2 ^ j) (le_trans (le_of_eq (pow-add 2 23 j)) (mul-le-mul_right (2 ^ j) lo))
    (subst (λ (k : ℕ). S * 2 ^ j < 2 ^ k) e (lt_of_lt_of_le (mul-lt-mul_of_pos_right hi (pow_pos j)) (le_of_eq (sym (pow-add 2 24 j))))) in
    let d : size (S * 2 ^ j) - 24 ≡ j = omega arith in
    pattern-is x (S * 2 ^ j) h
    ∙ ap (λ (k : ℕ). k * 2 ^ 23 + S * 2 ^ j / 2 ^ k) d
    ∙ ap (λ (y : ℕ). j * 2 ^ 23 + y) (shl-shr S j)

module _ (R k : ℕ) (lo : 2 ^ 23 ≤ R) (hi : R ≤ 2 ^ 24) (small : k ≤ 189) where
  pub under_top : R * 2 ^ k < 2 ^ 277
  under_top = lt_of_le_of_lt (mul-le-mul hi (pow_mono small)) (lit< tt)

  units_odd : units binary32 false R k ≡ odd 25 false R k 149
  unfolding units
  units_odd = ap (λ (b : Bool). cond b (odd 25 false R k 149) (inf false)) (lt-ltb (R * 2 ^ k) (2 ^ 277) under_top)

  -- R = 2 ^ 24 has the pattern of 2 ^ 23 with one more in the exponent's field
  pattern : to_bits binary32 (odd 25 false R k 149) ≡ R + k * 2 ^ 23
  pattern = go (eq-or-lt_of_le hi)
    where
      x : Float
      x = odd 25 false R k 149

      v : HasValue (odd 25 false R k 149) false (R * 2 ^ k) (2 ^ 149)
      v = odd_sign 25 false R k 149

      go : (R ≡ 2 ^ 24) ⊎ (R < 2 ^ 24) → to_bits binary32 (odd 25 false R k 149) ≡ R + k * 2 ^ 23
      go (inr l) = full (odd 25 false R k 149) R k lo l v ∙ omega arith
      go (inl e) =
          let w : R * 2 ^ k ≡ 2 ^ 23 * 2 ^ (1 + k) = ap (λ (y : ℕ). y * 2 ^ k) e ∙ mul_assoc (2 ^ 23) 2 (2 ^ k) ∙ ap (λ (y : ℕ). 2 ^ 23 * y) (sym (pow-add 2 1 k)) in
          full (odd 25 false R k 149) (2 ^ 23) (1 + k) (lit≤ tt) (lit< tt) (subst (λ (a : ℕ). HasValue (odd 25 false R k 149) false a (2 ^ 149)) w v) ∙ omega arith

  pub units_pattern : of_bits binary32 (R + k * 2 ^ 23) ≡ units binary32 false R k
  units_pattern =
      ap (of_bits binary32) (sym pattern)
      ∙ of_bits-to_bits binary32 (odd 25 false R k 149) (odd-fits binary32 25 false R k (omega arith) hi under_top)
      ∙ sym units_odd

-- ---- the number of a positive finite pattern, in units

pub of_bits_is : (b : ℕ) → of_bits binary32 b ≡ of_fields binary32 (leb (2 ^ 31) b) (b % 2 ^ 31 / 2 ^ 23) (b % 2 ^ 23)
unfolding of_bits
of_bits_is b = refl

sign_clear : (b : ℕ) → b < 2 ^ 31 → of_bits binary32 b ≡ of_fields binary32 false (b / 2 ^ 23) (b % 2 ^ 23)
sign_clear b h =
    of_bits_is b
    ∙ ap (λ (s : Bool). of_fields binary32 s (b % 2 ^ 31 / 2 ^ 23) (b % 2 ^ 23)) (lt-leb (2 ^ 31) b h)
    ∙ ap (λ (y : ℕ). of_fields binary32 false (y / 2 ^ 23) (b % 2 ^ 23)) (mod-eq_of_lt h)

field_zero : (t : ℕ) → of_fields binary32 false 0 t ≡ odd 24 false t 0 149
unfolding of_fields
field_zero t = refl

field_some : (x t : ℕ) → x < 254 → of_fields binary32 false (suc x) t ≡ odd 24 false (2 ^ 23 + t) x 149
unfolding of_fields
field_some x t h = ap (λ (b : Bool). cond b (cond (eqb t 0) (inf false) nan) (odd 24 false (2 ^ 23 + t) x 149)) (ne_eqb (suc x) 255 (omega arith))

pub subnormal : (b : ℕ) → b < 2 ^ 23 → HasValue (of_bits binary32 b) false (b * 2 ^ 0) (2 ^ 149)
subnormal b h =
    let e : of_bits binary32 b ≡ odd 24 false b 0 149 =
    sign_clear b (omega arith) ∙ ap (λ (x : ℕ). of_fields binary32 false x (b % 2 ^ 23)) (div-eq_of_lt h) ∙ field_zero (b % 2 ^ 23) ∙ ap (λ (t : ℕ). odd 24 false t 0 149) (mod-eq_of_lt h) in
    subst (λ (x : Float). HasValue x false (b * 2 ^ 0) (2 ^ 149)) (sym e) (odd_sign 24 false b 0 149)

pub normal : (b : ℕ) → 2 ^ 23 ≤ b → b < 0x7f80_0000 → HasValue (of_bits binary32 b) false ((b % 2 ^ 23 + 2 ^ 23) * 2 ^ (b / 2 ^ 23 - 1)) (2 ^ 149)
normal b lo hi =
    let x = b / 2 ^ 23 - 1 in
    let f : b / 2 ^ 23 ≡ suc x = omega arith in
    let s : 2 ^ 23 + b % 2 ^ 23 ≡ b % 2 ^ 23 + 2 ^ 23 = omega arith in
    let e : of_bits binary32 b ≡ odd 24 false (b % 2 ^ 23 + 2 ^ 23) x 149 =
    sign_clear b (omega arith) ∙ ap (λ (y : ℕ). of_fields binary32 false y (b % 2 ^ 23)) f ∙ field_some x (b % 2 ^ 23) (omega arith) ∙ ap (λ (t : ℕ). odd 24 false t x 149) s in
    subst (λ (y : Float). HasValue y false ((b % 2 ^ 23 + 2 ^ 23) * 2 ^ x) (2 ^ 149)) (sym e) (odd_sign 24 false (b % 2 ^ 23 + 2 ^ 23) x 149)

pub no_nan : (b : ℕ) → b < 0x7f80_0000 → T (not (nan_bits binary32 b))
no_nan b h = subst (λ (t : Bool). T (not t)) (sym (nan_bits_above binary32 b ∙ le-ltb 0x7f80_0000 (b % 2 ^ 31) (omega arith))) tt

-- ---- which patterns are finite with the sign clear

abbrev pub plain : Float → Bool
plain nan = false
plain (inf s) = false
plain (fin true m e) = false
plain (fin false m e) = true

value_plain : (x : Float) (a u : ℕ) → HasValue x false a u → plain x ≡ true
value_plain nan a u h = absurd h
value_plain (inf s) a u h = absurd h
value_plain (fin true m e) a u h = absurd (true≢false h.0)
value_plain (fin false m e) a u h = refl

odd_negative : (d q k l : ℕ) → plain (odd d true q k l) ≡ false
unfolding odd
odd_negative d zero k l = refl
odd_negative d (suc q) k l = refl

negative : (x t : ℕ) → plain (of_fields binary32 true x t) ≡ false
unfolding of_fields
negative zero t = odd_negative 24 t 0 149
negative (suc x) t = go (eqb (suc x) 255) (eqb t 0)
  where
    go : (a b : Bool) → plain (cond a (cond b (inf true) nan) (odd 24 true (2 ^ 23 + t) x 149)) ≡ false
    go true true = refl
    go true false = refl
    go false b = odd_negative 24 (2 ^ 23 + t) x 149

not_finite : (t : ℕ) → plain (of_fields binary32 false 255 t) ≡ false
unfolding of_fields
not_finite t = go (eqb t 0)
  where
    go : (b : Bool) → plain (cond b (inf false) nan) ≡ false
    go true = refl
    go false = refl

-- the patterns from the infinity's up
pub beyond : (b : ℕ) → 0x7f80_0000 ≤ b → plain (of_bits binary32 b) ≡ false
beyond b h = go (leb (2 ^ 31) b) refl
  where
    at : (s : Bool) → leb (2 ^ 31) b ≡ s → of_bits binary32 b ≡ of_fields binary32 s (b % 2 ^ 31 / 2 ^ 23) (b % 2 ^ 23)
    at s e = of_bits_is b ∙ ap (λ (s : Bool). of_fields binary32 s (b % 2 ^ 31 / 2 ^ 23) (b % 2 ^ 23)) e

    go : (s : Bool) → leb (2 ^ 31) b ≡ s → plain (of_bits binary32 b) ≡ false
    go true e = ap plain (at true e) ∙ negative (b % 2 ^ 31 / 2 ^ 23) (b % 2 ^ 23)
    go false e =
        let f : b % 2 ^ 31 / 2 ^ 23 ≡ 255 = omega (arith, leb-false (2 ^ 31) b e) in
        ap plain (at false e ∙ ap (λ (y : ℕ). of_fields binary32 false y (b % 2 ^ 23)) f) ∙ not_finite (b % 2 ^ 23)

pub finite_pattern : (b a u : ℕ) → HasValue (of_bits binary32 b) false a u → b < 0x7f80_0000
finite_pattern b a u h = lt_of_not-le (λ (g : 0x7f80_0000 ≤ b). true≢false (sym (value_plain (of_bits binary32 b) a u h) ∙ beyond b g))
