-- Laws of order: `le` is total away from NaN, a clamped value lies between its ends, cut and round keep the order, and what is limited is left as
-- it is when limited again. `clamp_between`, `round-step_mono` and `limit_again` are cited by no proof: they say of the steps what docs/GUARANTEES.md has
-- in words. Assumes nothing.
use Rattle.std.specs.Prelude.{◌≡◌, refl, ℕ, ◌+◌, ◌*◌, ◌/◌, ◌≤◌, ◌<◌, Bool, true, false, not, ◌&&◌, ◌||◌, cond, ℤ, pos, T, leb, ltb, eqb, Float}
use Rattle.std.proofs.Common.{sym, ap, ◌∙◌, subst, zero-le, zero-mul, mul-one, mul_comm, mul-pos, mul_assoc, mul_left_comm, add-mul, le_trans}
use Rattle.std.proofs.Common.{le_of_lt, le_of_eq, le_refl, arith, true≢false, ltb-true, ltb-false, eqb-true, le-leb, le-ltb, eqb→eq, lit<}
use Rattle.std.proofs.Math.Nat.{eq_of_mul-eq-mul_right, zero-div}
use Rattle.std.proofs.lemmas.Bool.{eqb-false}
use Rattle.std.specs.Float.{nan, inf, fin, binary32}
use Rattle.std.specs.Float.Ieee.{up, down, below, level, lt, le, eq, is_nan, of_bits}
use Rattle.std.specs.Float.Ieee.Fits.{down_pos, and_r, and_i, eq→eqb}
use Rattle.std.specs.Float.Ieee.Nearest.{div_mono}
use Rattle.std.specs.Float.Ieee.Order.{round_mono}
use Rattle.num.specs.Const.{c0_0, c1_0}
use Rattle.num.specs.Steps.{clamp_of, plus_zero_of, limit_of, cut_of, round_of}

-- ---- tests of numbers

pub le_tests : (a b : ℕ) (q : Bool) → a ≤ b → T q → T (ltb a b || (eqb a b && q))
le_tests a b q h t = go (ltb a b) refl
  where
    same : (a b : ℕ) → a ≤ b → b ≤ a → a ≡ b
    same a b h k = omega arith

    go : (p : Bool) → ltb a b ≡ p → T (p || (eqb a b && q))
    go true e = tt
    go false e = and_i (eqb a b) q (eq→eqb (same a b h (ltb-false a b e))) t

pub tests_le : (a b : ℕ) (q : Bool) → T (ltb a b || (eqb a b && q)) → a ≤ b
tests_le a b q h = go (ltb a b) (eqb a b) refl refl h
  where
    go : (p r : Bool) → ltb a b ≡ p → eqb a b ≡ r → T (p || (r && q)) → a ≤ b
    go true r e k h = omega (arith, ltb-true a b e)
    go false true e k h = omega (arith, eqb-true a b k)
    go false false e k h = absurd h

pub tests_lt : (a b : ℕ) → (ltb a b || (eqb a b && (true || eqb a 0))) ≡ false → b < a
tests_lt a b h = go (ltb a b) (eqb a b) refl refl h
  where
    go : (p q : Bool) → ltb a b ≡ p → eqb a b ≡ q → (p || (q && (true || eqb a 0))) ≡ false → b < a
    go true q e k h = absurd (true≢false h)
    go false true e k h = absurd (true≢false h)
    go false false e k h = omega (arith, ltb-false a b e, eqb-false a b k)

-- ±b ≤ ±a where ±a is not below ±b
turned : (s : Bool) (a : ℕ) (t : Bool) (b : ℕ) → below s a t b ≡ false → T (below t b s a || level t b s a)
turned false a false b h = le_tests b a true (ltb-false a b h) tt
turned true a true b h = go (ltb a b) refl
  where
    same : (a b : ℕ) → a ≤ b → b ≤ a → b ≡ a
    same a b h k = omega arith

    go : (p : Bool) → ltb a b ≡ p → T (p || (eqb b a && true))
    go true e = tt
    go false e = and_i (eqb b a) true (eq→eqb (same a b (ltb-false b a h) (ltb-false a b e))) tt
turned true a false b h = and_i (eqb b a) (eqb b 0) (eq→eqb (same a b (ltb-false 0 (a + b) h))) (eq→eqb (none a b (ltb-false 0 (a + b) h)))
  where
    same : (a b : ℕ) → a + b ≤ 0 → b ≡ a
    same a b h = omega arith

    none : (a b : ℕ) → a + b ≤ 0 → b ≡ 0
    none a b h = omega arith
turned false a true b h = go (ltb 0 (b + a)) refl
  where
    same : (a b : ℕ) → b + a ≤ 0 → b ≡ a
    same a b h = omega arith

    none : (a b : ℕ) → b + a ≤ 0 → b ≡ 0
    none a b h = omega arith

    go : (p : Bool) → ltb 0 (b + a) ≡ p → T (p || (eqb b a && eqb b 0))
    go true e = tt
    go false e = and_i (eqb b a) (eqb b 0) (eq→eqb (same a b (ltb-false 0 (b + a) e))) (eq→eqb (none a b (ltb-false 0 (b + a) e)))

-- ---- the order of values

pub not-lt : (x y : Float) → T (not (is_nan x)) → T (not (is_nan y)) → lt x y ≡ false → T (le y x)
unfolding le is_nan
not-lt nan y p q h = absurd p
not-lt (inf s) nan p q h = absurd q
not-lt (inf true) (inf true) p q h = tt
not-lt (inf true) (inf false) p q h = subst T h tt
not-lt (inf false) (inf true) p q h = tt
not-lt (inf false) (inf false) p q h = tt
not-lt (inf true) (fin t n d) p q h = subst T h tt
not-lt (inf false) (fin t n d) p q h = tt
not-lt (fin s m e) nan p q h = absurd q
not-lt (fin s m e) (inf true) p q h = tt
not-lt (fin s m e) (inf false) p q h = subst T h tt
not-lt (fin s m e) (fin t n d) p q h = turned s (m * up e * down d) t (n * up d * down e) h

-- what is below is not above
pub asymmetric : (x y : Float) → lt x y ≡ true → lt y x ≡ false
unfolding lt
asymmetric nan y h = absurd (true≢false (sym h))
asymmetric (inf s) nan h = absurd (true≢false (sym h))
asymmetric (inf true) (inf true) h = refl
asymmetric (inf true) (inf false) h = refl
asymmetric (inf false) (inf t) h = absurd (true≢false (sym h))
asymmetric (inf true) (fin t n d) h = refl
asymmetric (inf false) (fin t n d) h = absurd (true≢false (sym h))
asymmetric (fin s m e) nan h = absurd (true≢false (sym h))
asymmetric (fin s m e) (inf true) h = absurd (true≢false (sym h))
asymmetric (fin s m e) (inf false) h = refl
asymmetric (fin false m e) (fin false n d) h = le-ltb (n * up d * down e) (m * up e * down d) (le_of_lt (ltb-true (m * up e * down d) (n * up d * down e) h))
asymmetric (fin true m e) (fin true n d) h = le-ltb (m * up e * down d) (n * up d * down e) (le_of_lt (ltb-true (n * up d * down e) (m * up e * down d) h))
asymmetric (fin true m e) (fin false n d) h = refl
asymmetric (fin false m e) (fin true n d) h = absurd (true≢false (sym h))

-- what is below something is a number
pub lt-number : (x y : Float) → lt x y ≡ true → T (not (is_nan x))
unfolding lt is_nan
lt-number nan y h = absurd (true≢false (sym h))
lt-number (inf s) y h = tt
lt-number (fin s m e) y h = tt

-- and so is what is above something
pub lt-number_right : (x y : Float) → lt x y ≡ true → T (not (is_nan y))
unfolding lt is_nan
lt-number_right nan y h = absurd (true≢false (sym h))
lt-number_right (inf s) nan h = absurd (true≢false (sym h))
lt-number_right (inf s) (inf t) h = tt
lt-number_right (inf s) (fin t n d) h = tt
lt-number_right (fin s m e) nan h = absurd (true≢false (sym h))
lt-number_right (fin s m e) (inf t) h = tt
lt-number_right (fin s m e) (fin t n d) h = tt

pub one-above : lt c0_0 c1_0 ≡ true
unfolding lt of_bits
one-above = refl

pub irreflexive : (x : Float) → lt x x ≡ false
unfolding lt
irreflexive nan = refl
irreflexive (inf true) = refl
irreflexive (inf false) = refl
irreflexive (fin false m e) = le-ltb (m * up e * down e) (m * up e * down e) (le_refl (m * up e * down e))
irreflexive (fin true m e) = le-ltb (m * up e * down e) (m * up e * down e) (le_refl (m * up e * down e))

pub le_refl_value : (x : Float) → T (not (is_nan x)) → T (le x x)
le_refl_value x p = not-lt x x p p (irreflexive x)

le_no_nan : (x y : Float) → T (le x y) → T (not (is_nan x)) × T (not (is_nan y))
unfolding le is_nan
le_no_nan nan y h = absurd h
le_no_nan (inf s) nan h = absurd h
le_no_nan (inf s) (inf t) h = (tt, tt)
le_no_nan (inf s) (fin t n d) h = (tt, tt)
le_no_nan (fin s m e) nan h = absurd h
le_no_nan (fin s m e) (inf t) h = (tt, tt)
le_no_nan (fin s m e) (fin t n d) h = (tt, tt)

pub clamp_between : (x lo hi : Float) → T (not (is_nan x)) → T (le lo hi) → T (le lo (clamp_of x lo hi)) × T (le (clamp_of x lo hi) hi)
unfolding clamp_of
clamp_between x lo hi p l = go (lt x lo) (lt hi x) refl refl
  where
    go : (a b : Bool) → lt x lo ≡ a → lt hi x ≡ b → T (le lo (cond a lo (cond b hi x))) × T (le (cond a lo (cond b hi x)) hi)
    go true b h k = (le_refl_value lo (le_no_nan lo hi l).0, l)
    go false true h k = (l, le_refl_value hi (le_no_nan lo hi l).1)
    go false false h k = (not-lt x lo p (le_no_nan lo hi l).0 h, not-lt hi x (le_no_nan lo hi l).1 p k)

-- ---- cut and round keep the order

pub none_left : (a d : ℕ) → 0 < d → a * d ≡ 0 → a ≡ 0
none_left a d p h = eq_of_mul-eq-mul_right d p a 0 (h ∙ sym (zero-mul d))

pub cut_mono : (x y : Float) → T (le x y) → T (le y (fin false 1023 (pos 0))) → cut_of x ≤ cut_of y
unfolding le cut_of
cut_mono nan y h k = zero-le
cut_mono (inf s) y h k = zero-le
cut_mono (fin true m e) y h k = zero-le
cut_mono (fin false m e) nan h k = absurd h
cut_mono (fin false m e) (inf true) h k = absurd h
cut_mono (fin false m e) (inf false) h k = absurd k
cut_mono (fin false m e) (fin true n d) h k =
    let z : m * up e ≡ 0 = none_left (m * up e) (down d) (down_pos d)
    (eqb→eq (m * up e * down d) 0 (and_r (eqb (m * up e * down d) (n * up d * down e)) (eqb (m * up e * down d) 0) h)) in
    go (leb (m * up e) (1023 * down e)) z
  where
    go : (b : Bool) → m * up e ≡ 0 → cond b (m * up e / down e) 0 ≤ 0
    go true z = le_of_eq (ap (λ (a : ℕ). a / down e) z ∙ zero-div (down e))
    go false z = zero-le
cut_mono (fin false m e) (fin false n d) h k =
    subst (λ (b : Bool). cond (leb (m * up e) (1023 * down e)) (m * up e / down e) 0 ≤ cond b (n * up d / down d) 0)
    (sym (le-leb (n * up d) (1023 * down d) (subst (λ (a : ℕ). a ≤ 1023 * down d) (mul-one (n * up d)) (tests_le (n * up d * 1) (1023 * down d) true k))))
    (go (leb (m * up e) (1023 * down e)))
  where
    go : (b : Bool) → cond b (m * up e / down e) 0 ≤ n * up d / down d
    go true = div_mono (m * up e) (down e) (n * up d) (down d) (down_pos e) (down_pos d) (tests_le (m * up e * down d) (n * up d * down e) true h)
    go false = zero-le

pub round-step_mono : (m : ℕ) (e : ℤ) (n : ℕ) (d : ℤ) → T (le (fin false m e) (fin false n d)) → T (le (round_of (fin false m e)) (round_of (fin false n d)))
unfolding le round_of
round-step_mono m e n d h =
    round_mono binary32 ((2 * (m * up e) + down e) / (2 * down e)) 1 ((2 * (n * up d) + down d) / (2 * down d)) 1 (lit< tt) (lit< tt)
    (subst (λ (r : ℕ). r ≤ (2 * (n * up d) + down d) / (2 * down d) * 1) (sym (mul-one ((2 * (m * up e) + down e) / (2 * down e))))
    (le_trans
    (div_mono (2 * (m * up e) + down e) (2 * down e) (2 * (n * up d) + down d) (2 * down d) (mul-pos (lit< tt) (down_pos e)) (mul-pos (lit< tt) (down_pos d))
    (halves (m * up e) (down e) (n * up d) (down d) (tests_le (m * up e * down d) (n * up d * down e) true h)))
    (le_of_eq (sym (mul-one ((2 * (n * up d) + down d) / (2 * down d)))))))
  where
    -- (2a + c) / 2c ≤ (2b + d) / 2d from a / c ≤ b / d, multiplied out
    halves : (a c b d : ℕ) → a * d ≤ b * c → (2 * a + c) * (2 * d) ≤ (2 * b + d) * (2 * c)
    halves a c b d h = le_trans (le_of_eq (out a c d)) (le_trans (four (a * d) (b * c) (c * d) (d * c) h (mul_comm c d)) (le_of_eq (sym (out b d c))))
      where
        out : (a c d : ℕ) → (2 * a + c) * (2 * d) ≡ 4 * (a * d) + 2 * (c * d)
        out a c d =
            add-mul (2 * a) c (2 * d) ∙ parts (a * d) (c * d) (2 * a * (2 * d)) (c * (2 * d))
            (mul_assoc 2 a (2 * d) ∙ ap (λ (x : ℕ). 2 * x) (mul_left_comm a 2 d)) (mul_left_comm c 2 d)
          where
            parts : (p q u v : ℕ) → u ≡ 2 * (2 * p) → v ≡ 2 * q → u + v ≡ 4 * p + 2 * q
            parts p q u v e k = omega arith

        four : (p q u v : ℕ) → p ≤ q → u ≡ v → 4 * p + 2 * u ≤ 4 * q + 2 * v
        four p q u v h e = omega arith

-- ---- normalising twice changes nothing

zero-is-zero : eq c0_0 c0_0 ≡ true
unfolding eq of_bits
zero-is-zero = refl

pub plus_zero_again : (x : Float) → plus_zero_of (plus_zero_of x) ≡ plus_zero_of x
unfolding plus_zero_of
plus_zero_again x = go (eq x c0_0) refl
  where
    go : (b : Bool) → eq x c0_0 ≡ b → plus_zero_of (cond b c0_0 x) ≡ cond b c0_0 x
    go true h = rw zero-is-zero
    go false h = rw h

-- of limits that are in order, neither of them -0
pub limit_again : (x lo hi : Float) → plus_zero_of lo ≡ lo → plus_zero_of hi ≡ hi → lt hi lo ≡ false → limit_of (limit_of x lo hi) lo hi ≡ limit_of x lo hi
unfolding limit_of clamp_of
limit_again x lo hi p q o = at (plus_zero_of x) (plus_zero_again x)
  where
    at : (y : Float) → plus_zero_of y ≡ y → limit_of (clamp_of y lo hi) lo hi ≡ clamp_of y lo hi
    at y k = go (lt y lo) (lt hi y) refl refl
      where
        go : (a b : Bool) → lt y lo ≡ a → lt hi y ≡ b → limit_of (cond a lo (cond b hi y)) lo hi ≡ cond a lo (cond b hi y)
        go true b h l = rw (p, irreflexive lo, o)
        go false true h l = rw (q, o, irreflexive hi)
        go false false h l = rw (k, h, l)
