-- Squares and roots: a square is not below 0 and not -0, nor is a sum of two; the root of what is from 0 to 2 ^ 24 is
-- at most 2 ^ 13. Assumes nothing.
use Rattle.std.specs.Prelude.{◌≡◌, refl, ℕ, zero, suc, ◌+◌, ◌-◌, ◌*◌, ◌/◌, ◌^◌, ◌≤◌, ◌<◌, Bool, true, false, cond, T, leb, ltb, Float}
use Rattle.std.proofs.Common.{subst, zero-le, mul-pos, mul-le-mul, mul-le-mul_right, le_trans, le_of_eq, le_refl, lt_of_le_of_lt, le_of_lt}
use Rattle.std.proofs.Common.{not-le_of_lt, div-add-mod', le_of_mul-le-mul_right, mul_right_comm, arith, true≢false, leb-true, leb-false, leb→le}
use Rattle.std.proofs.Common.{lit<, pow_pos, pow_mono}
use Rattle.std.proofs.Math.Nat.{mul-lt-mul_of_pos_left, div-le_of_le-mul}
use Rattle.std.specs.Float.{nan, inf, fin, binary32}
use Rattle.std.specs.Float.Ieee.{up, down, unlike, size, units, round, sum, add, mul}
use Rattle.std.specs.Float.Ieee.Fits.{down_pos}
use Rattle.std.specs.Float.Ieee.Exact.{HasValue, units_val}
use Rattle.std.specs.Float.Ieee.Digits as Digits
use Rattle.num.specs.Laws.Bounds.{zero-within}
use Rattle.num.specs.F32.{◌⊕◌, ◌⊗◌}
use Rattle.num.specs.Root.{root_digits, whole_root, nearest_root, root_of}
use Rattle.num.specs.Ranges.{within, Signed}
use Rattle.num.specs.Laws.Within.{size-le, within_plus, round_signed}
use Rattle.num.specs.Laws.Sized.{Exact, Sized, exact_within}

-- the square of a value is not negative
pub square_within : (n : ℕ) (x : Float) → Exact (n * n) → Sized n x → T (within (n * n) (x ⊗ x))
unfolding mul
square_within n nan e h = absurd h
square_within n (inf _) e h = absurd h
square_within n (fin s m e) x h =
    subst (λ (b : Bool). T (within (n * n) (round binary32 b (m * up e * (m * up e)) (down e * down e)))) (like s)
    (exact_within (n * n) (m * up e * (m * up e)) (down e * down e) x (mul-pos (down_pos e) (down_pos e))
    (both (m * up e) (down e) h))
  where
    like : (s : Bool) → false ≡ unlike s s
    like true = refl
    like false = refl

    both : (a c : ℕ) → a ≤ n * c → a * a ≤ n * n * (c * c)
    both a c h = let p = mul-le-mul h h in omega arith

-- squares and their sum are positive, or 0 and not -0
pub square_signed : (n : ℕ) (x : Float) → Sized n x → Signed false (x ⊗ x)
unfolding mul
square_signed n nan h = absurd h
square_signed n (inf _) h = absurd h
square_signed n (fin true m e) h = round_signed binary32 false (m * up e * (m * up e)) (down e * down e)
square_signed n (fin false m e) h = round_signed binary32 false (m * up e * (m * up e)) (down e * down e)

pub plus_signed : (n k : ℕ) (x y : Float) → Sized n x → Sized k y → Signed false x → Signed false y
    → Signed false (x ⊕ y)
unfolding add sum
plus_signed n k nan y h g p q = absurd h
plus_signed n k (inf _) y h g p q = absurd h
plus_signed n k (fin s m e) nan h g p q = absurd g
plus_signed n k (fin s m e) (inf _) h g p q = absurd g
plus_signed n k (fin true m e) (fin t i d) h g p q = absurd (true≢false p)
plus_signed n k (fin false m e) (fin true i d) h g p q = absurd (true≢false q)
plus_signed n k (fin false m e) (fin false i d) h g p q =
    round_signed binary32 false (m * up e * down d + i * up d * down e) (down e * down d)

-- ---- the root: its whole digits, the digits kept, the value

digits_le : (k n q : ℕ) → q * q ≤ n → root_digits k n q * root_digits k n q ≤ n
unfolding root_digits
digits_le zero n q l = l
digits_le (suc k) n q l =
    go (q + 2 ^ k) (leb ((q + 2 ^ k) * (q + 2 ^ k)) n)
    (λ h. digits_le k n (q + 2 ^ k) (leb→le ((q + 2 ^ k) * (q + 2 ^ k)) n h)) (digits_le k n q l)
  where
    go : (t : ℕ) (b : Bool) → (T b → root_digits k n t * root_digits k n t ≤ n) → root_digits k n q * root_digits k n q ≤ n
        → root_digits k n (cond b t q) * root_digits k n (cond b t q) ≤ n
    go t true y f = y tt
    go t false y f = f

square_le : (a b : ℕ) → a * a ≤ b * b → a ≤ b
square_le a b h = go (leb a b) refl
  where
    less : b < a → b * b < a * a
    less l =
        lt_of_le_of_lt (mul-le-mul (le_of_lt l) (le_refl b))
        (mul-lt-mul_of_pos_left {k = a} l (lt_of_le_of_lt zero-le l))

    go : (q : Bool) → leb a b ≡ q → a ≤ b
    go true e = leb-true a b e
    go false e = absurd (not-le_of_lt (less (leb-false a b e)) h)

-- r * 2 ^ k, with r the whole root w without its last k digits or one more
kept-le : (w k r t : ℕ) → w ≤ t → 2 ^ k ≤ t → r ≤ w / 2 ^ k + 1 → r * 2 ^ k ≤ 2 * t
kept-le w k r t h g l =
    let p = mul-le-mul_right (2 ^ k) l in
    let q = div-add-mod' w (2 ^ k) in
    omega arith

value_le-within : (n : ℕ) (x : Float) (a c : ℕ) → 0 < c → a ≤ n * c → HasValue x false a c → T (within n x)
value_le-within n nan a c p h v = elim v [ ]
value_le-within n (inf _) a c p h v = elim v [ ]
value_le-within n (fin true m e) a c p h v = absurd (true≢false v.0)
value_le-within n (fin false m e) a c p h v =
    within_plus n m e
    (le_of_mul-le-mul_right {m = m * up e} {n = n * down e} {k = c}
    (let q = mul-le-mul_right (down e) h in le_trans (le_of_eq v.1)
    (le_trans q (le_of_eq (mul_right_comm n c (down e))))) p)

nearest_within : (n : ℕ) → n ≤ 2 ^ 161 * 2 ^ 161 → T (within 8192 (nearest_root n))
unfolding nearest_root whole_root
nearest_within n h =
    let w = root_digits (size n) n 0 in
    let k = size w - 24 in
    let q = w / 2 ^ k in
    let small : w ≤ 2 ^ 161 = square_le w (2 ^ 161) (le_trans (digits_le (size n) n 0 zero-le) h) in
    let digits : k ≤ 161 = fewer (size w) (Digits.size-le w 162 (lt_of_le_of_lt small (lit< tt))) in
    go w k q (cond (ltb ((2 * q + 1) * 2 ^ k * ((2 * q + 1) * 2 ^ k)) (4 * n)) (q + 1) q) small (pow_mono digits)
    (pick (ltb ((2 * q + 1) * 2 ^ k * ((2 * q + 1) * 2 ^ k)) (4 * n)) q) refl
  where
    fewer : (s : ℕ) → s ≤ 162 → s - 24 ≤ 161
    fewer s h = omega arith

    pick : (b : Bool) (q : ℕ) → cond b (q + 1) q ≤ q + 1
    pick true q = omega arith
    pick false q = omega arith

    go : (w k q r : ℕ) → w ≤ 2 ^ 161 → 2 ^ k ≤ 2 ^ 161 → r ≤ q + 1 → q ≡ w / 2 ^ k
        → T (within 8192 (units binary32 false r k))
    go w k q r small few l e =
        let top : r * 2 ^ k ≤ 2 * 2 ^ 161 = kept-le w k r (2 ^ 161) small few (subst (λ (j : ℕ). r ≤ j + 1) e l) in
        value_le-within 8192 (units binary32 false r k) (r * 2 ^ k) (2 ^ 149) (pow_pos 149) top
        (units_val binary32 false r k (lt_of_le_of_lt top (lit< tt)))

pub root_within : (x : Float) → T (within 16777216 x) → T (within 8192 (root_of x))
unfolding root_of within
root_within nan h = absurd h
root_within (inf s) h = absurd h
root_within (fin true m e) h = zero-within 8192
root_within (fin false m e) h =
    nearest_within (m * up e * 2 ^ 298 / down e)
    (div-le_of_le-mul (down e) (top (m * up e) (down e) (2 ^ 298) (size-le 16777216 false m e h)))
  where
    top : (a c u : ℕ) → a ≤ 16777216 * c → a * u ≤ c * (16777216 * u)
    top a c u h = let q = mul-le-mul_right u h in omega arith
