-- Bounds by whole numbers: `Sized n x` says that x is finite and at most n away from 0. No rounding passes a whole
-- number that binary32 has (`Exact`, `round-sized`), so sums, differences and products keep the bounds of the exact
-- results. Assumes nothing.
use Rattle.std.proofs.Common.{sym, ap, ◌∙◌, subst, inl, inr, mul-one, mul_assoc, suc-mul, le_of_suc-le-suc, div-lt_iff_lt-mul, mul-pos, mul-le-mul}
use Rattle.std.proofs.Common.{mul-le-mul_right, le_trans, le_of_eq, lt_of_lt_of_le, arith, true≢false, lit<, lit≤, pow_mono, pow-add, shl_lt}
use Rattle.std.specs.Prelude.{ℕ, suc, ◌+◌, ◌-◌, ◌*◌, ◌/◌, ◌^◌, ◌≤◌, ◌<◌, Bool, true, false, not, ◌&&◌, cond, T, ltb, Float}
use Rattle.std.specs.Float.{nan, inf, fin, binary32}
use Rattle.std.specs.Float.Ieee.{up, down, unlike, round, sum, add, sub, mul, neg, is_nan}
use Rattle.std.specs.Float.Ieee.Fits.{down_pos}
use Rattle.std.specs.Float.Ieee.Exact.{HasValue, round_exact}
use Rattle.std.specs.Float.Ieee.Back.{round_whole}
use Rattle.std.specs.Float.Ieee.Order.{round_mono}
use Rattle.std.specs.Float.Ieee.Scale.{finite}
use Rattle.num.specs.F32.{◌⊕◌, ◌⊖◌, ◌⊗◌}
use Rattle.num.specs.Laws.Signs.{round-neg}
use Rattle.num.specs.Steps.{abs_of, round_of}
use Rattle.num.specs.Ranges.{within}
use Rattle.num.specs.Laws.Within.{size-le, round_signed, le-within, Plain, within-plain}

-- binary32 has the whole number n
abbrev pub Exact : ℕ → Type 0
Exact n = HasValue (round binary32 false n 1) false n 1

pub exact : (n : ℕ) → n ≤ 16777216 → Exact n
exact n l = round_whole binary32 false n l

pub exact_sum : (n : ℕ) → n ≤ 1048576 → Exact (n * 1024)
exact_sum n l =
    let small : n < 2 ^ 24 = omega arith in
    round_exact binary32 false (n * 1024) 1 n 159 (lit< tt) small
    (lt_of_lt_of_le (shl_lt 24 159 small) (pow_mono {i = 24 + 159} {j = 149 + 128} (lit≤ tt)))
    (mul_assoc n (2 ^ 10) (2 ^ 149) ∙ ap (λ (k : ℕ). n * k) (sym (pow-add 2 10 149)) ∙ sym (mul-one (n * 2 ^ 159)))

abbrev pub Sized : ℕ → Float → Type 0
Sized n nan = ⊥
Sized n (inf s) = ⊥
Sized n (fin s m e) = m * up e ≤ n * down e

pub sized_finite : (n : ℕ) (x : Float) → Sized n x → T (finite x)
sized_finite n nan h = absurd h
sized_finite n (inf s) h = absurd h
sized_finite n (fin s m e) h = tt

pub sized-number : (n : ℕ) (x : Float) → Sized n x → T (not (is_nan x))
unfolding is_nan
sized-number n nan h = absurd h
sized-number n (inf s) h = absurd h
sized-number n (fin s m e) h = tt

pub sized_widen : (n k : ℕ) (x : Float) → n ≤ k → Sized n x → Sized k x
sized_widen n k nan l h = h
sized_widen n k (inf s) l h = h
sized_widen n k (fin s m e) l h = le_trans h (mul-le-mul_right (down e) l)

pub within-sized : (n : ℕ) (x : Float) → T (within n x) → Sized n x
unfolding within
within-sized n nan h = absurd h
within-sized n (inf s) h = absurd h
within-sized n (fin s m e) h = size-le n s m e h

pub neg-sized : (n : ℕ) (x : Float) → Sized n x → Sized n (neg x)
unfolding neg
neg-sized n nan h = h
neg-sized n (inf s) h = h
neg-sized n (fin s m e) h = h

-- ---- a rounded fraction

pub exact_within : (n a c : ℕ) → Exact n → 0 < c → a ≤ n * c → T (within n (round binary32 false a c))
exact_within n a c x p h =
    le-within n (round binary32 false a c) (round binary32 false n 1) (round_signed binary32 false a c) x
    (round_mono binary32 a c n 1 p (lit< tt) (subst (λ (k : ℕ). k ≤ n * c) (sym (mul-one a)) h))

pub round-sized : (n : ℕ) (s : Bool) (a c : ℕ) → Exact n → 0 < c → a ≤ n * c → Sized n (round binary32 s a c)
round-sized n false a c x p h = within-sized n _ (exact_within n a c x p h)
round-sized n true a c x p h =
    subst (λ (z : Float). Sized n z) (sym (round-neg binary32 a c))
    (neg-sized n _ (within-sized n _ (exact_within n a c x p h)))

pub sum-sized : (n : ℕ) (s : Bool) (a : ℕ) (t : Bool) (b c : ℕ) → Exact n → 0 < c → a + b ≤ n * c
    → Sized n (sum binary32 s a t b c)
unfolding sum
sum-sized n s a t b c x p h = go s t
  where
    less : (a b r : ℕ) → a + b ≤ r → b - a ≤ r
    less a b r h = omega arith

    rest : (a b r : ℕ) → a + b ≤ r → a - b ≤ r
    rest a b r h = omega arith

    pick : (q u v : Bool) → Sized n (cond q (round binary32 u (b - a) c) (round binary32 v (a - b) c))
    pick true u v = round-sized n u (b - a) c x p (less a b (n * c) h)
    pick false u v = round-sized n v (a - b) c x p (rest a b (n * c) h)

    go : (s t : Bool) → Sized n (sum binary32 s a t b c)
    go true true = round-sized n true (a + b) c x p h
    go false false = round-sized n false (a + b) c x p h
    go true false = pick (ltb a b) false (true && ltb b a)
    go false true = pick (ltb a b) true false

-- ---- sums, differences, products

pub plus_sized : (n k : ℕ) (x y : Float) → Exact (n + k) → Sized n x → Sized k y → Sized (n + k) (x ⊕ y)
unfolding add
plus_sized n k nan y e h g = absurd h
plus_sized n k (inf _) y e h g = absurd h
plus_sized n k (fin s m e) nan x h g = absurd g
plus_sized n k (fin s m e) (inf _) x h g = absurd g
plus_sized n k (fin s m e) (fin t i d) x h g =
    sum-sized (n + k) s (m * up e * down d) t (i * up d * down e) (down e * down d) x
    (mul-pos (down_pos e) (down_pos d))
    (both (m * up e) (down e) (i * up d) (down d) h g)
  where
    both : (a c b d : ℕ) → a ≤ n * c → b ≤ k * d → a * d + b * c ≤ (n + k) * (c * d)
    both a c b d h g = let p = mul-le-mul_right d h in let q = mul-le-mul_right c g in omega arith

pub minus_sized : (n k : ℕ) (x y : Float) → Exact (n + k) → Sized n x → Sized k y → Sized (n + k) (x ⊖ y)
unfolding sub
minus_sized n k x y e h g = plus_sized n k x (neg y) e h (neg-sized k y g)

pub times-sized : (n k : ℕ) (x y : Float) → Exact (n * k) → Sized n x → Sized k y → Sized (n * k) (x ⊗ y)
unfolding mul
times-sized n k nan y e h g = absurd h
times-sized n k (inf _) y e h g = absurd h
times-sized n k (fin s m e) nan x h g = absurd g
times-sized n k (fin s m e) (inf _) x h g = absurd g
times-sized n k (fin s m e) (fin t i d) x h g =
    round-sized (n * k) (unlike s t) (m * up e * (i * up d)) (down e * down d) x (mul-pos (down_pos e) (down_pos d))
    (both (m * up e) (down e) (i * up d) (down d) h g)
  where
    both : (a c b d : ℕ) → a ≤ n * c → b ≤ k * d → a * b ≤ n * k * (c * d)
    both a c b d h g = let p = mul-le-mul h g in omega arith

-- ---- of two values from 0 to n

difference_sized : (n : ℕ) (s : Bool) (a : ℕ) (t : Bool) (b c : ℕ) → Exact n → 0 < c → a ≤ n * c → b ≤ n * c → Plain s a
    → Plain t b
    → Sized n (sum binary32 s a (not t) b c)
unfolding sum
difference_sized n false a false b c x p h g i j = go (ltb a b)
  where
    less : (a b r : ℕ) → b ≤ r → b - a ≤ r
    less a b r h = omega arith

    go : (q : Bool) → Sized n (cond q (round binary32 true (b - a) c) (round binary32 false (a - b) c))
    go true = round-sized n true (b - a) c x p (less a b (n * c) g)
    go false = round-sized n false (a - b) c x p (less b a (n * c) h)
difference_sized n s a true b c x p h g i (inr z) = sum-sized n s a false b c x p (omega arith)
difference_sized n s a true b c x p h g i (inl z) = absurd (true≢false z)
difference_sized n true a false b c x p h g (inr z) j = sum-sized n true a true b c x p (omega arith)
difference_sized n true a false b c x p h g (inl z) j = absurd (true≢false z)

-- of two values from 0 to n
pub between-sized : (n : ℕ) (x y : Float) → Exact n → T (within n x) → T (within n y) → Sized n (x ⊖ y)
unfolding sub add neg within
between-sized n nan y ex h g = absurd h
between-sized n (inf _) y ex h g = absurd h
between-sized n (fin s m e) nan ex h g = absurd g
between-sized n (fin s m e) (inf _) ex h g = absurd g
between-sized n (fin s m e) (fin t i d) ex h g =
    difference_sized n s (m * up e * down d) t (i * up d * down e) (down e * down d) ex
    (mul-pos (down_pos e) (down_pos d))
    (left (m * up e) (down e) (down d) (size-le n s m e h)) (right (i * up d) (down d) (down e) (size-le n t i d g))
    (within-plain n s m e (down d) h) (within-plain n t i d (down e) g)
  where
    left : (a c d : ℕ) → a ≤ n * c → a * d ≤ n * (c * d)
    left a c d h = let q = mul-le-mul_right d h in omega arith

    right : (b d c : ℕ) → b ≤ n * d → b * c ≤ n * (c * d)
    right b d c h = let q = mul-le-mul_right c h in omega arith

-- ---- the steps

pub abs_sized : (n : ℕ) (x : Float) → Sized n x → Sized n (abs_of x)
unfolding abs_of
abs_sized n nan h = h
abs_sized n (inf s) h = h
abs_sized n (fin s m e) h = h

pub round-step-sized : (n : ℕ) (x : Float) → Exact n → Sized n x → Sized n (round_of x)
unfolding round_of
round-step-sized n nan x h = absurd h
round-step-sized n (inf s) x h = absurd h
round-step-sized n (fin s m e) x h =
    round-sized n s ((2 * (m * up e) + down e) / (2 * down e)) 1 x (lit< tt)
    (le_trans
    (le_of_suc-le-suc ((div-lt_iff_lt-mul (mul-pos (lit< tt) (down_pos e))).1 (fine (m * up e) (down e) h (down_pos e))))
    (le_of_eq (sym (mul-one n))))
  where
    fine : (a c : ℕ) → a ≤ n * c → 0 < c → 2 * a + c < suc n * (2 * c)
    fine a c h p = let q = suc-mul n (2 * c) in omega arith
