-- Values that are known as a fraction, `HasValue x false a c`: their sum, a half and a half more of a whole number, which are exact, and how a
-- value that is not negative compares with one. Assumes nothing.
use Rattle.std.specs.Prelude.{◌≡◌, refl, ℕ, ◌+◌, ◌*◌, ◌^◌, ◌≤◌, ◌<◌, Bool, ℤ, Float}
use Rattle.std.proofs.Common.{sym, ◌∙◌, subst, mul_assoc, mul_comm, mul_left_comm, mul-pos, add-mul, lt_of_lt_of_le, lt_of_not-le, not-le_of_lt}
use Rattle.std.proofs.Common.{true≢false, lit<, lit≤, pow_mono, shl_lt}
use Rattle.std.proofs.Math.Path.{ap, ap₂}
use Rattle.std.proofs.Math.Nat.{zero-mul, lt_irrefl, mul-mul-mul_comm}
use native.Mathlib.Omega.{arith}
use Rattle.std.proofs.Math.Bool.{true, false, cond}
use borrow.Author.Tests.{ltb-true, ne_eqb}
use Rattle.std.proofs.Math.Dec.{T, eqb}
use Rattle.std.specs.Float.Ieee.{nan, up, down, round, add, mul, div, of_int, of_bits, lt, le}
use Rattle.std.specs.Float.{inf, fin, Format, binary32}
use Rattle.std.specs.Float.Ieee.Fits.{down_pos}
use Rattle.std.specs.Float.Ieee.Exact.{HasValue, round_exact}
use Rattle.std.specs.Float.Ieee.Back.{round_whole}
use Rattle.std.specs.Float.Ieee.Order.{transfer}
use Rattle.std.specs.Float.Ieee.Positive.{first_pos}
use Rattle.std.specs.Float.Ieee.Scale.{round_same}
use Rattle.num.specs.Const.{c0_5}
use Rattle.num.specs.F32.{◌⊕◌, whole}
use Rattle.num.specs.Laws.Order.{tests_le, tests_lt}

-- ---- a sum

pub add_at : (f : Format) (x y : Float) (a c b d : ℕ) → 0 < c → 0 < d → HasValue x false a c → HasValue y false b d
    → add f x y ≡ round f false (a * d + b * c) (c * d)
unfolding add
add_at f nan y a c b d C D v w = elim v [ ]
add_at f (inf _) y a c b d C D v w = elim v [ ]
add_at f (fin false m e) nan a c b d C D v w = elim w [ ]
add_at f (fin false m e) (inf _) a c b d C D v w = elim w [ ]
add_at f (fin true m e) y a c b d C D v w = absurd (true≢false v.0)
add_at f (fin false m e) (fin true n g) a c b d C D v w = absurd (true≢false w.0)
add_at f (fin false m e) (fin false n g) a c b d C D v w =
    round_same f false (m * up e * down g + n * up g * down e) (down e * down g) (a * d + b * c) (c * d) (mul-pos (down_pos e) (down_pos g)) (mul-pos C D)
    (add-mul (m * up e * down g) (n * up g * down e) (c * d)
    ∙ ap (λ (k : ℕ). k + n * up g * down e * (c * d)) (regroup (m * up e) (down g) c d a (down e) v.1)
    ∙ ap (λ (k : ℕ). a * d * (down e * down g) + k)
    (ap (λ (k : ℕ). n * up g * down e * k) (mul_comm c d) ∙ regroup (n * up g) (down e) d c b (down g) w.1
    ∙ ap (λ (k : ℕ). b * c * k) (mul_comm (down g) (down e)))
    ∙ sym (add-mul (a * d) (b * c) (down e * down g)))
  where
    -- x * g over c * d, where x / h is a / c
    regroup : (x g c d a h : ℕ) → x * c ≡ a * h → x * g * (c * d) ≡ a * d * (h * g)
    regroup x g c d a h v =
        let l : x * g * (c * d) ≡ x * c * (g * d) = simp (mul_assoc, mul_left_comm) refl in
        let r : a * h * (g * d) ≡ a * d * (h * g) = simp (mul_assoc, mul_comm, mul_left_comm) refl in
        l ∙ ap (λ (k : ℕ). k * (g * d)) v ∙ r

-- ---- a product, and a quotient

module _ (f : Format) where
  pub mul_at : (x y : Float) (a c b d : ℕ) → 0 < c → 0 < d → HasValue x false a c → HasValue y false b d → mul f x y ≡ round f false (a * b) (c * d)
  unfolding mul
  mul_at nan y a c b d C D v w = elim v [ ]
  mul_at (inf _) y a c b d C D v w = elim v [ ]
  mul_at (fin false m e) nan a c b d C D v w = elim w [ ]
  mul_at (fin false m e) (inf _) a c b d C D v w = elim w [ ]
  mul_at (fin true m e) y a c b d C D v w = absurd (true≢false v.0)
  mul_at (fin false m e) (fin true n g) a c b d C D v w = absurd (true≢false w.0)
  mul_at (fin false m e) (fin false n g) a c b d C D v w =
      round_same f false (m * up e * (n * up g)) (down e * down g) (a * b) (c * d) (mul-pos (down_pos e) (down_pos g)) (mul-pos C D)
      (mul-mul-mul_comm (m * up e) (n * up g) c d ∙ ap₂ (λ (j k : ℕ). j * k) v.1 w.1 ∙ mul-mul-mul_comm a (down e) b (down g))

  pub div-at : (x y : Float) (a c b d : ℕ) → 0 < c → 0 < d → 0 < b → HasValue x false a c → HasValue y false b d → div f x y ≡ round f false (a * d) (b * c)
  unfolding div
  div-at nan y a c b d C D B v w = elim v [ ]
  div-at (inf _) y a c b d C D B v w = elim v [ ]
  div-at (fin false m e) nan a c b d C D B v w = elim w [ ]
  div-at (fin false m e) (inf _) a c b d C D B v w = elim w [ ]
  div-at (fin true m e) y a c b d C D B v w = absurd (true≢false v.0)
  div-at (fin false m e) (fin true n g) a c b d C D B v w = absurd (true≢false w.0)
  div-at (fin false m e) (fin false n g) a c b d C D B v w =
      let N : 0 < n * up g = first_pos (n * up g) d (subst (λ (k : ℕ). 0 < k) (sym w.1) (mul-pos B (down_pos g))) in
      let not-zero : eqb n 0 ≡ false = ne_eqb n 0 (λ z. lt_irrefl 0 (subst (λ (k : ℕ). 0 < k) (ap (λ (k : ℕ). k * up g) z ∙ zero-mul (up g)) N)) in
      ap (λ (t : Bool). cond t (cond (eqb m 0) nan (inf false)) (round f false (m * up e * down g) (n * up g * down e))) not-zero
      ∙ round_same f false (m * up e * down g) (n * up g * down e) (a * d) (b * c) (mul-pos N (down_pos e)) (mul-pos B C)
      (across (m * up e) (down e) (n * up g) (down g) a c b d v.1 w.1)
    where
      across : (x e y g a c b d : ℕ) → x * c ≡ a * e → y * d ≡ b * g → x * g * (b * c) ≡ a * d * (y * e)
      across x e y g a c b d v w =
          let l : x * g * (b * c) ≡ x * c * (b * g) = omega arith in
          let r : a * e * (y * d) ≡ a * d * (y * e) = omega arith in
          l ∙ ap₂ (λ (j k : ℕ). j * k) v (sym w) ∙ r

-- ---- a whole number, its half, and a half more

pub whole_value : (n : ℕ) → n ≤ 16777216 → HasValue (whole n) false n 1
unfolding of_int
whole_value n l = round_whole binary32 false n l

pub half_value : (n : ℕ) → n < 16777216 → HasValue (round binary32 false n 2) false n 2
half_value n l =
    round_exact binary32 false n 2 n 148 (lit< tt) l
    (lt_of_lt_of_le (shl_lt 24 148 l) (pow_mono {i = 24 + 148} {j = 149 + 128} (lit≤ tt))) (sym (mul_assoc n (2 ^ 148) 2))

half_is : HasValue c0_5 false 1 2
unfolding of_bits
half_is = (refl, refl)

pub half_more : (n : ℕ) → n < 8388608 → HasValue (whole n ⊕ c0_5) false (2 * n + 1) 2
half_more n l =
    let sum : n * 2 + 1 * 1 ≡ 2 * n + 1 = omega arith in
    subst (λ (x : Float). HasValue x false (2 * n + 1) 2)
    (sym (add_at binary32 (whole n) c0_5 n 1 1 2 (lit< tt) (lit< tt) (whole_value n (omega arith)) half_is ∙ ap (λ (k : ℕ). round binary32 false k 2) sum))
    (half_value (2 * n + 1) (omega arith))

-- ---- comparisons of m * up e / down e with p / q

module _ (m : ℕ) (e : ℤ) (p q : ℕ) (Q : 0 < q) where
  -- i / d is p / q: their order with m * up e / down e is the same
  from_value : (i d : ℕ) → 0 < d → i * q ≡ p * d → i * down e ≤ m * up e * d → p * down e ≤ m * up e * q
  from_value i d D v h = transfer p (m * up e) q (down e) i (m * up e) d (down e) D (down_pos e) (sym v) refl h

  to_value : (i d : ℕ) → i * q ≡ p * d → m * up e * d < i * down e → m * up e * q < p * down e
  to_value i d v h =
      lt_of_not-le (λ (k : p * down e ≤ m * up e * q). not-le_of_lt h (transfer i (m * up e) d (down e) p (m * up e) q (down e) Q (down_pos e) v refl k))

  pub lt_value : (z : Float) → HasValue z false p q → lt (fin false m e) z ≡ true → m * up e * q < p * down e
  unfolding lt
  lt_value nan v h = elim v [ ]
  lt_value (inf _) v h = elim v [ ]
  lt_value (fin true i g) v h = absurd (true≢false v.0)
  lt_value (fin false i g) v h = to_value (i * up g) (down g) v.1 (ltb-true (m * up e * down g) (i * up g * down e) h)

  pub value_le : (z : Float) → HasValue z false p q → le z (fin false m e) ≡ true → p * down e ≤ m * up e * q
  unfolding le
  value_le nan v h = elim v [ ]
  value_le (inf _) v h = elim v [ ]
  value_le (fin true i g) v h = absurd (true≢false v.0)
  value_le (fin false i g) v h =
      from_value (i * up g) (down g) (down_pos g) v.1 (tests_le (i * up g * down e) (m * up e * down g) true (subst T (sym h) tt))

  pub value_not-le : (z : Float) → HasValue z false p q → le z (fin false m e) ≡ false → m * up e * q < p * down e
  unfolding le
  value_not-le nan v h = elim v [ ]
  value_not-le (inf _) v h = elim v [ ]
  value_not-le (fin true i g) v h = absurd (true≢false v.0)
  value_not-le (fin false i g) v h = to_value (i * up g) (down g) v.1 (tests_lt (i * up g * down e) (m * up e * down g) h)
