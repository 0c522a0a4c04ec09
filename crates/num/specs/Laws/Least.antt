-- What may be divided by: `Least k x` says that x is at least 1 / k. No rounding passes 1 or 1 / 2 from above either,
-- so what is at least 1 stays so when something is added that is not below 0. Assumes nothing.
use Rattle.std.specs.Prelude.{◌≡◌, refl, ◌⊎◌, ℕ, ◌+◌, ◌-◌, ◌*◌, ◌≤◌, ◌<◌, Bool, true, false, not, ◌&&◌, cond, pos, T, ltb, Float}
use Rattle.std.proofs.Common.{sym, ap, ◌∙◌, inl, inr, zero-mul, one-mul, mul_comm, mul-pos, mul-le-mul_right, le_trans, le_of_eq, le_of_lt, arith}
use Rattle.std.proofs.Common.{true≢false, lt-ltb, le-ltb, ltb-true, ltb-false, lit<, lit≤}
use Rattle.std.specs.Float.{nan, inf, fin, binary32}
use Rattle.std.specs.Float.Ieee.{up, down, round, sum, add, sub, div, neg, lt, le, of_bits, of_int}
use Rattle.std.specs.Float.Ieee.Fits.{down_pos}
use Rattle.std.specs.Float.Ieee.Exact.{HasValue}
use Rattle.num.specs.Laws.Bounds.{one-is}
use Rattle.std.specs.Float.Ieee.Back.{round_whole}
use Rattle.std.specs.Float.Ieee.Order.{round_mono}
use Rattle.num.specs.Const.{c0_0, c1_0, c2_0, c255_0}
use Rattle.num.specs.F32.{◌⊕◌, ◌⊖◌, ◌⊘◌, whole}
use Rattle.num.specs.Steps.{max_of}
use Rattle.num.specs.Laws.Values.{value_le, half_value, add_at}
use Rattle.num.specs.Ranges.{within, Signed}
use Rattle.num.specs.Laws.Bools.{is_true}
use Rattle.num.specs.Laws.Within.{size-le, round_signed, Plain, nothing, within-plain}
use Rattle.num.specs.Laws.Sized.{Exact, exact, Sized, round-sized, sum-sized, plus_sized}

abbrev pub Least : ℕ → Float → Type 0
Least k nan = ⊥
Least k (inf s) = ⊥
Least k (fin true m e) = ⊥
Least k (fin false m e) = down e ≤ k * (m * up e)

-- what is at least 1 is above 0
pub least_above : (x : Float) → Least 1 x → lt c0_0 x ≡ true
unfolding lt of_bits
least_above nan h = absurd h
least_above (inf s) h = absurd h
least_above (fin true m e) h = absurd h
least_above (fin false m e) h = lt-ltb (0 * 1 * down e) (m * up e * 1) (omega (arith, zero-mul (down e), down_pos e))

-- ---- a rounded fraction

round_least_by : (n k a c : ℕ) → HasValue (round binary32 false 1 k) false 1 k → 0 < k → 0 < c → c ≤ k * a
    → Sized n (round binary32 false a c)
    → Least k (round binary32 false a c)
round_least_by n k a c v K p h s =
    go (round binary32 false a c) s (round_signed binary32 false a c)
    (round_mono binary32 1 k a c K p (le_trans (le_of_eq (one-mul c)) (le_trans h (le_of_eq (mul_comm k a)))))
  where
    go : (x : Float) → Sized n x → Signed false x → T (le (round binary32 false 1 k) x) → Least k x
    go nan s t l = absurd s
    go (inf u) s t l = absurd s
    go (fin true m e) s t l = absurd (true≢false t)
    go (fin false m e) s t l =
        le_trans (le_of_eq (sym (one-mul (down e))))
        (le_trans (value_le m e 1 k K (round binary32 false 1 k) v (is_true _ l)) (le_of_eq (mul_comm (m * up e) k)))

round_least : (n a c : ℕ) → 0 < c → c ≤ a → Sized n (round binary32 false a c) → Least 1 (round binary32 false a c)
round_least n a c p h s =
    round_least_by n 1 a c (round_whole binary32 false 1 (lit≤ tt)) (lit< tt) p
    (le_trans h (le_of_eq (sym (one-mul a)))) s

-- a sum of two values of which only a zero is negative
sum_least : (n : ℕ) (s : Bool) (a : ℕ) (t : Bool) (b c : ℕ) → 0 < c → c ≤ a + b → Plain s a → Plain t b
    → Sized n (sum binary32 s a t b c)
    → Least 1 (sum binary32 s a t b c)
unfolding sum
sum_least n false a false b c p h g k z = round_least n (a + b) c p h z
sum_least n true a true b c p h g k z = absurd (none (nothing g) (nothing k))
  where
    none : a ≡ 0 → b ≡ 0 → ⊥
    none x y = omega arith
sum_least n false a true b c p h g (inl e) z = absurd (true≢false e)
sum_least n false a true b c p h g (inr e) z = go (ltb a b) refl z
  where
    go : (q : Bool) → ltb a b ≡ q → Sized n (cond q (round binary32 true (b - a) c) (round binary32 false (a - b) c))
        → Least 1 (cond q (round binary32 true (b - a) c) (round binary32 false (a - b) c))
    go true q z = absurd (let l = ltb-true a b q in omega arith)
    go false q z = round_least n (a - b) c p (omega arith) z
sum_least n true a false b c p h (inl e) k z = absurd (true≢false e)
sum_least n true a false b c p h (inr e) k z = go (ltb a b) refl z
  where
    go : (q : Bool) → ltb a b ≡ q
        → Sized n (cond q (round binary32 false (b - a) c) (round binary32 (true && ltb b a) (a - b) c))
        → Least 1 (cond q (round binary32 false (b - a) c) (round binary32 (true && ltb b a) (a - b) c))
    go true q z = round_least n (b - a) c p (omega arith) z
    go false q z = absurd (let l = ltb-false a b q in omega arith)

-- ---- whole numbers and halves

pub whole_least : (n : ℕ) → 0 < n → n ≤ 16777216 → Least 1 (whole n)
unfolding of_int
whole_least n p l = go (round binary32 false n 1) (round_whole binary32 false n l)
  where
    fine : (a c : ℕ) → a * 1 ≡ n * c → c ≤ 1 * a
    fine a c v = let q = mul-le-mul_right c p in omega arith

    go : (x : Float) → HasValue x false n 1 → Least 1 x
    go nan v = elim v [ ]
    go (inf _) v = elim v [ ]
    go (fin true m e) v = absurd (true≢false v.0)
    go (fin false m e) v = fine (m * up e) (down e) v.1

pub half_least : (n : ℕ) → 0 < n → n ≤ 16777216 → Least 2 (whole n ⊘ c2_0)
unfolding div of_int of_bits
half_least n p s = go (round binary32 false n 1) (round_whole binary32 false n s)
  where
    more : (a c : ℕ) → a * 1 ≡ n * c → 1 * 2 * c ≤ 2 * (a * 1)
    more a c v = let q = mul-le-mul_right c p in omega arith

    most : (a c : ℕ) → a * 1 ≡ n * c → a * 1 ≤ n * (1 * 2 * c)
    most a c v = omega arith

    go : (x : Float) → HasValue x false n 1 → Least 2 (div binary32 x (fin false 1 (pos 1)))
    go nan v = elim v [ ]
    go (inf _) v = elim v [ ]
    go (fin true m e) v = absurd (true≢false v.0)
    go (fin false m e) v =
        let c : 0 < 1 * 2 * down e = mul-pos (lit< tt) (down_pos e) in
        round_least_by n 2 (m * up e * 1) (1 * 2 * down e) (half_value 1 (lit< tt)) (lit< tt) c
        (more (m * up e) (down e) v.1)
        (round-sized n false (m * up e * 1) (1 * 2 * down e) (exact n s) c (most (m * up e) (down e) v.1))

pub next-whole : (n : ℕ) → n < 16777216 → whole n ⊕ c1_0 ≡ whole (n + 1)
unfolding of_int
next-whole n l =
    add_at binary32 (round binary32 false n 1) c1_0 n 1 1 1 (lit< tt) (lit< tt)
    (round_whole binary32 false n (le_of_lt l)) one-is
    ∙ ap (λ (k : ℕ). round binary32 false k 1) (let e : n * 1 + 1 * 1 ≡ n + 1 = omega arith in e)

-- ---- sums, differences, maximum

-- more than what is at least 1 is at least 1
pub more_least : (n k : ℕ) (x y : Float) → Exact (n + k) → T (within n x) → T (within k y) → Least 1 x ⊎ Least 1 y
    → Least 1 (x ⊕ y)
unfolding add within
more_least n k nan y ex h g l = absurd h
more_least n k (inf _) y ex h g l = absurd h
more_least n k (fin s m e) nan ex h g l = absurd g
more_least n k (fin s m e) (inf _) ex h g l = absurd g
more_least n k (fin s m e) (fin t i d) ex h g l =
    sum_least (n + k) s (m * up e * down d) t (i * up d * down e) (down e * down d) (mul-pos (down_pos e) (down_pos d))
    (one s t l)
    (within-plain n s m e (down d) h) (within-plain k t i d (down e) g)
    (plus_sized n k (fin s m e) (fin t i d) ex (size-le n s m e h) (size-le k t i d g))
  where
    left : (a c b d : ℕ) → c ≤ 1 * a → c * d ≤ a * d + b * c
    left a c b d h = let p = mul-le-mul_right d h in omega arith

    right : (a c b d : ℕ) → d ≤ 1 * b → c * d ≤ a * d + b * c
    right a c b d h = let p = mul-le-mul_right c h in omega arith

    one : (s t : Bool) → Least 1 (fin s m e) ⊎ Least 1 (fin t i d)
        → down e * down d ≤ m * up e * down d + i * up d * down e
    one true t (inl l) = absurd l
    one false t (inl l) = left (m * up e) (down e) (i * up d) (down d) l
    one s true (inr l) = absurd l
    one s false (inr l) = right (m * up e) (down e) (i * up d) (down d) l

-- 1 less nothing
pub less_nothing : (y : Float) → T (within 0 y) → Least 1 (c1_0 ⊖ y)
unfolding sub add neg within of_bits
less_nothing nan h = absurd h
less_nothing (inf s) h = absurd h
less_nothing (fin t i d) h =
    let z : i * up d * 1 ≡ 0 = none (i * up d) (down d) (size-le 0 t i d h) in
    sum_least 1 false (1 * 1 * down d) (not t) (i * up d * 1) (1 * down d) (mul-pos (lit< tt) (down_pos d))
    (omega arith) (inl refl) (inr z)
    (sum-sized 1 false (1 * 1 * down d) (not t) (i * up d * 1) (1 * down d) (exact 1 (lit≤ tt))
    (mul-pos (lit< tt) (down_pos d)) (omega arith))
  where
    none : (a c : ℕ) → a ≤ 0 * c → a * 1 ≡ 0
    none a c h = omega (arith, zero-mul c)

-- 255 less a whole number below it
pub top_least : (t : ℕ) → t < 255 → Least 1 (c255_0 ⊖ whole t)
unfolding sub add neg sum of_int of_bits
top_least t l = go (round binary32 false t 1) (round_whole binary32 false t (omega arith))
  where
    less : (b d : ℕ) → b * 1 ≡ t * d → (b * 1 ≤ 255 * 1 * d) × (1 * d ≤ 255 * 1 * d - b * 1)
    less b d v = let q : (t + 1) * d ≤ 255 * d = mul-le-mul_right d (omega arith) in (omega arith, omega arith)

    go : (x : Float) → HasValue x false t 1 → Least 1 (add binary32 (fin false 255 (pos 0)) (neg x))
    go nan v = elim v [ ]
    go (inf _) v = elim v [ ]
    go (fin true i d) v = absurd (true≢false v.0)
    go (fin false i d) v =
        let q = less (i * up d) (down d) v.1 in
        let c : 0 < 1 * down d = mul-pos (lit< tt) (down_pos d) in
        rw (le-ltb (255 * 1 * down d) (i * up d * 1) q.0)
        (round_least 255 (255 * 1 * down d - i * up d * 1) (1 * down d) c q.1
        (round-sized 255 false (255 * 1 * down d - i * up d * 1) (1 * down d) (exact 255 (lit≤ tt)) c (omega arith)))

-- the greater of x and 1 is at least 1
pub max_least : (n : ℕ) (x : Float) → Sized n x → Least 1 (max_of x c1_0)
unfolding max_of lt of_bits
max_least n x h = go (lt c1_0 x) refl
  where
    one : Least 1 c1_0
    one = lit≤ tt

    more : (x : Float) → Sized n x → lt c1_0 x ≡ true → Least 1 x
    more nan h k = absurd h
    more (inf s) h k = absurd h
    more (fin true m e) h k = absurd (true≢false (sym k))
    more (fin false m e) h k = let l = ltb-true (1 * down e) (m * up e * 1) k in omega arith

    go : (b : Bool) → lt c1_0 x ≡ b → Least 1 (cond b x c1_0)
    go true k = more x h k
    go false k = one
