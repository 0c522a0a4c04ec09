-- What adding 2 ^ 23 does to a value from 0 to below 2 ^ 23: the sum is rounded to a whole number, at most a half away, whose last digits stand in
-- the bit pattern. Assumes nothing.
use mathlib.Core.Path.{◌≡◌, refl, sym, ap, ◌∙◌, subst}
use Prim.Native.Nat.{ℕ, zero, suc, ◌+◌, ◌-◌, ◌*◌, ◌/◌, ◌%◌, ◌^◌, ◌≤◌, ◌<◌, compare, Ordering}
use native.Mathlib.Nat.{le_trans, le_of_eq, lt_of_lt_of_le, mul_left_comm, mul-one, mul_assoc, mul_right_comm, mul-pos, add-mul, suc-mul, add-zero, one-mul}
use native.Mathlib.Nat.{le_of_suc-le-suc, lt_of_mul-lt-mul_right, mul-le-mul_right, mul-lt-mul_of_pos_right, mod-lt, div-add-mod', le-div_iff_mul-le}
use native.Mathlib.Nat.{div-lt_iff_lt-mul, div-eq_of_lt-le}
use native.Mathlib.Omega.{arith}
use mathlib.Core.Bool.{Bool, true, false, not}
use lib.Dec.{T, is_le, compare_is_eq, leb→le, nleb→lt, eqb→eq, ltb→lt, lt→ltb, lit<, lit≤}
use lib.Pow.{pow-add, pow_pos}
use lib.Ieee.{Float, fin, binary32, up, down, size, nearest, units, round, add, is_nan, of_bits, to_bits, nan, inf}
use lib.Ieee.Fits.{down_pos, core, round_is}
use lib.Ieee.Nearest.{closest, closest_mono, closest_same}
use lib.Ieee.Bits.{to_bits-of_bits, nan_bits_is}
use Rattle.num.specs.Const.{c8388608_0}
use Rattle.num.specs.Private.{under, Near}
use Rattle.num.proofs.Patterns.{size_is, units_pattern, no_nan}

-- ---- the nearest whole number to a / c is at most a half away

abbrev Bounds : ℕ → ℕ → ℕ → Type 0
Bounds a c n = (2 * a ≤ (2 * n + 1) * c) × (2 * n * c ≤ 2 * a + c)

doubled : (n c : ℕ) → (2 * n + 1) * c ≡ 2 * (n * c) + c
doubled n c = add-mul (2 * n) 1 c ∙ parts (2 * n * c) (n * c) (1 * c) c (mul_assoc 2 n c) (one-mul c)
  where
    parts : (u v x c : ℕ) → u ≡ 2 * v → x ≡ c → u + x ≡ 2 * v + c
    parts u v x c e k = omega arith

bounds_down : (a c q r : ℕ) → q * c + r ≡ a → r * 2 ≤ c → Bounds a c q
bounds_down a c q r e h = (omega (arith, doubled q c), omega (arith, mul_assoc 2 q c))

bounds_up : (a c q r : ℕ) → q * c + r ≡ a → c ≤ r * 2 → r < c → Bounds a c (suc q)
bounds_up a c q r e h l = (omega (arith, doubled (suc q) c, suc-mul q c), omega (arith, mul_assoc 2 (suc q) c, suc-mul q c))

bounds : (a c q r : ℕ) (o : Ordering) → q * c + r ≡ a → r < c → (T (is_le o) → r * 2 ≤ c) → (T (not (is_le o)) → c < r * 2) → (T (compare_is_eq o) → r * 2 ≡ c)
    → Bounds a c (nearest q o)
bounds a c q r Ordering.lt e l below above level = bounds_down a c q r e (below tt)
bounds a c q r Ordering.gt e l below above level = bounds_up a c q r e (omega (arith, above tt)) l
bounds a c q r Ordering.eq e l below above level = go (q % 2) refl
  where
    go : (p : ℕ) → q % 2 ≡ p → Bounds a c (q + p)
    go zero k = subst (Bounds a c) (sym (add-zero q)) (bounds_down a c q r e (below tt))
    go (suc p) k =
        let one : q + suc p ≡ suc q = omega arith in
        subst (Bounds a c) (sym one) (bounds_up a c q r e (le_of_eq (sym (level tt))) l)

pub closest_near : (a c : ℕ) → 0 < c → Bounds a c (closest a c)
closest_near a c p =
    bounds a c (a / c) (a % c) (compare (a % c * 2) c) (div-add-mod' a c) (mod-lt a p) (leb→le (a % c * 2) c) (nleb→lt (a % c * 2) c) (eqb→eq (a % c * 2) c)

-- ---- a fraction from 2 ^ 23 to below 2 ^ 24 of some unit is rounded to a whole number of them: a / c in units of 2 ^ k / 2 ^ 149 is b / c

module _ (k a b c : ℕ) (e : a * 2 ^ 149 ≡ b * 2 ^ k) (few : k ≤ 189) (p : 0 < c) (lo : 8388608 * c ≤ b) (hi : b < 16777216 * c) where
  digits : size (a * 2 ^ 149 / c) ≡ suc (23 + k)
  digits =
      let more : 24 + k ≡ suc (23 + k) = omega arith in
      size_is (23 + k) (a * 2 ^ 149 / c)
      ((le-div_iff_mul-le p).1
      (le_trans (le_of_eq (ap (λ (x : ℕ). x * c) (pow-add 2 23 k) ∙ mul_right_comm 8388608 (2 ^ k) c)) (le_trans (mul-le-mul_right (2 ^ k) lo) (le_of_eq (sym e)))))
      (subst (λ (n : ℕ). a * 2 ^ 149 / c < 2 ^ n) more
      ((div-lt_iff_lt-mul p).1
      (lt_of_lt_of_le (subst (λ (x : ℕ). x < 16777216 * c * 2 ^ k) (sym e) (mul-lt-mul_of_pos_right hi (pow_pos k)))
      (le_of_eq (mul_right_comm 16777216 c (2 ^ k) ∙ ap (λ (x : ℕ). x * c) (sym (pow-add 2 24 k)))))))

  rounded : round binary32 false a c ≡ units binary32 false (closest b c) k
  rounded =
      let past : suc (23 + k) - 24 ≡ k = omega arith in
      round_is binary32 false a c
      ∙ ap (λ (n : ℕ). core binary32 false (a * 2 ^ 149) c (n - 24)) digits
      ∙ ap (core binary32 false (a * 2 ^ 149) c) past
      ∙ ap (λ (q : ℕ). units binary32 false q k)
      (closest_same (a * 2 ^ 149) (c * 2 ^ k) b c (mul-pos p (pow_pos k)) p (ap (λ (x : ℕ). x * c) e ∙ mul_right_comm b (2 ^ k) c ∙ mul_assoc b c (2 ^ k)))

  pub at_least : 8388608 ≤ closest b c
  at_least = closest_mono 8388608 1 b c (lit< tt) p (le_trans lo (le_of_eq (sym (mul-one b))))

  pub at_most : closest b c ≤ 16777216
  at_most = closest_mono b c 16777216 1 p (lit< tt) (omega arith)

  pub rounded-bits : round binary32 false a c ≡ of_bits binary32 (closest b c + k * 8388608)
  rounded-bits = rounded ∙ sym (units_pattern (closest b c) k at_least at_most few)

-- ---- the sum

abbrev pub sum_of : Float → Float
sum_of v = add binary32 v c8388608_0

-- n, plus 2 ^ 23, has the sum's pattern
abbrev Sum : Float → Type 0
Sum v = (n : ℕ) × (sum_of v ≡ of_bits binary32 (1258291200 + n)) × Near v n × (n ≤ 8388608)

summed : (v : Float) → T (under 8388608 v) → Sum v
unfolding under add of_bits Near
summed nan h = elim h [ ]
summed (inf _) h = elim h [ ]
summed (fin true m e) h = elim h [ ]
summed (fin false m e) h =
    let A = m * up e in
    let C = down e in
    let a = A * 1 + 8388608 * C in
    let c = C * 1 in
    let l : A < 8388608 * C = ltb→lt A (8388608 * C) h in
    let p : 0 < c = mul-pos (down_pos e) (lit< tt) in
    let lo : 8388608 * c ≤ a = omega arith in
    let hi : a < 16777216 * c = omega arith in
    let N = closest a c in
    let n = N - 8388608 in
    let b = closest_near a c p in
    let more : 8388608 ≤ N = at_least 149 a a c refl (lit≤ tt) p lo hi in
    let most : N ≤ 16777216 = at_most 149 a a c refl (lit≤ tt) p lo hi in
    let is : N ≡ n + 8388608 = omega arith in
    let low : (2 * N + 1) * c ≡ (2 * n + 1) * C + 16777216 * C = shifted (2 * N + 1) (2 * n + 1) C (omega arith) in
    let high : 2 * N * c ≡ 2 * n * C + 16777216 * C = shifted (2 * N) (2 * n) C (omega arith) in
    let bits : N + 1249902592 ≡ 1258291200 + n = omega arith in (
      n,
      rounded-bits 149 a a c refl (lit≤ tt) p lo hi ∙ ap (of_bits binary32) bits,
      (omega (arith, b.0), omega (arith, b.1)),
      omega arith,
    )
  where
    shifted : (x y C : ℕ) → x ≡ y + 16777216 → x * (C * 1) ≡ y * C + 16777216 * C
    shifted x y C e = ap (λ (k : ℕ). k * (C * 1)) e ∙ ap (λ (k : ℕ). (y + 16777216) * k) (mul-one C) ∙ add-mul y 16777216 C

-- what a pattern that is a base and n tells: no NaN, and n
pub past : (x : Float) (base n : ℕ) → x ≡ of_bits binary32 (base + n) → base + n < 0x7f80_0000
    → T (not (is_nan x)) × (base ≤ to_bits binary32 x) × (to_bits binary32 x - base ≡ n)
past x base n e small =
    let number : T (not (is_nan (of_bits binary32 (base + n)))) = subst (λ (b : Bool). T (not b)) (nan_bits_is binary32 (base + n)) (no_nan (base + n) small) in
    let bits : to_bits binary32 x ≡ base + n = ap (to_bits binary32) e ∙ to_bits-of_bits binary32 (base + n) (omega arith) number in
    (subst (λ (y : Float). T (not (is_nan y))) (sym e) number, omega arith, omega arith)

pub sum-bits : (v : Float) → T (under 8388608 v) → T (not (is_nan (sum_of v))) × (1258291200 ≤ to_bits binary32 (sum_of v)) × Near v (to_bits binary32 (sum_of v) - 1258291200)
sum-bits v h =
    let s = summed v h in
    let p = past (sum_of v) 1258291200 s.0 s.1 (omega (arith, s.3)) in
    (p.0, p.1, subst (Near v) (sym p.2) s.2)

-- a whole number near a value below k is at most k
pub near_le : (k n : ℕ) (v : Float) → T (under k v) → Near v n → n ≤ k
unfolding under Near
near_le k n nan h b = elim h [ ]
near_le k n (inf _) h b = elim h [ ]
near_le k n (fin true m e) h b = elim h [ ]
near_le k n (fin false m e) h b =
    let A = m * up e in
    let C = down e in
    let l : A < k * C = ltb→lt A (k * C) h in
    le_of_suc-le-suc (lt_of_mul-lt-mul_right C (le_trans (omega (arith, b.1, mul_assoc 2 n C, down_pos e)) (le_of_eq (sym (suc-mul k C)))))

pub under_more : (k n : ℕ) (v : Float) → k ≤ n → T (under k v) → T (under n v)
unfolding under
under_more k n nan l h = elim h [ ]
under_more k n (inf _) l h = elim h [ ]
under_more k n (fin true m e) l h = elim h [ ]
under_more k n (fin false m e) l h = lt→ltb (m * up e) (n * down e) (lt_of_lt_of_le (ltb→lt (m * up e) (k * down e) h) (mul-le-mul_right (down e) l))

-- ---- from the nearest whole number to the whole part of A / C + 1/2

one_more : (n c : ℕ) → (n + 1) * c ≡ n * c + c
one_more n c = add-mul n 1 c ∙ ap (λ (x : ℕ). n * c + x) (one-mul c)

module _ (A C n : ℕ) (p : 0 < C) (b : (2 * A ≤ (2 * n + 1) * C) × (2 * n * C ≤ 2 * A + C)) where
  pub half-above : (2 * n + 1) * C ≤ A * 2 → n + 1 ≡ (2 * A + C) / (2 * C)
  half-above l =
      sym
      (div-eq_of_lt-le (2 * C) (omega (arith, doubled n C, one_more n C, mul_left_comm (n + 1) 2 C))
      (omega (arith, doubled n C, one_more n C, one_more (n + 1) C, mul_left_comm (n + 1 + 1) 2 C, b.0)))

  pub half-below : A * 2 < (2 * n + 1) * C → n ≡ (2 * A + C) / (2 * C)
  half-below l =
      sym
      (div-eq_of_lt-le (2 * C) (omega (arith, mul_assoc 2 n C, mul_left_comm n 2 C, b.1))
      (omega (arith, doubled n C, one_more n C, mul_left_comm (n + 1) 2 C)))
