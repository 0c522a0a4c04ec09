-- Bounds on binary32 values by whole numbers: no rounding passes a whole number up to 2 ^ 24 (`round-within`), so sums,
-- differences and products stay `within` the bounds of the exact results. Assumes nothing.
use Rattle.std.specs.Prelude.{◌≡◌, refl, ◌⊎◌, ℕ, zero, suc, ◌+◌, ◌-◌, ◌*◌, ◌^◌, ◌≤◌, ◌<◌, Bool, true, false, not, ◌||◌, cond, ℤ, T, leb, ltb, eqb, Float}
use Rattle.std.proofs.Common.{sym, ap, ◌∙◌, subst, inl, inr, zero-le, zero-mul, mul-one, mul_comm, mul_assoc, mul_right_comm, mul-pos, mul-le-mul}
use Rattle.std.proofs.Common.{mul-le-mul_right, le_of_mul-le-mul_right, le_trans, le_of_eq, add-mul, add-le-add, sub-le, arith, leb→le, le→leb}
use Rattle.std.proofs.Common.{eqb→eq, lit<}
use Rattle.std.proofs.Math.Nat.{mul-mul-mul_comm}
use Rattle.std.specs.Float.{nan, inf, fin, Format, binary32}
use Rattle.std.specs.Float.Ieee.{prec, emax, low, up, down, unlike, below, level, odd, units, round, sum, add, sub, mul, le}
use Rattle.std.specs.Float.Ieee.Fits.{up_pos, down_pos, and_l, and_r, and_i}
use Rattle.std.specs.Float.Ieee.Exact.{HasValue, round_exact}
use Rattle.std.specs.Float.Ieee.Back.{round_whole}
use Rattle.std.specs.Float.Ieee.Order.{round_mono}
use Rattle.num.specs.Laws.Order.{tests_le, none_left}
use Rattle.num.specs.Ranges.{within, Signed}

-- ---- what `within` says of a finite value: its size, and that a negative one is -0

pub size-le : (n : ℕ) (s : Bool) (m : ℕ) (e : ℤ) → T (within n (fin s m e)) → m * up e ≤ n * down e
unfolding within
size-le n s m e h = leb→le (m * up e) (n * down e) (and_l (leb (m * up e) (n * down e)) (not s || eqb m 0) h)

pub minus_zero : (n m : ℕ) (e : ℤ) → T (within n (fin true m e)) → m * up e ≡ 0
unfolding within
minus_zero n m e h = ap (λ (k : ℕ). k * up e) (eqb→eq m 0 (and_r (leb (m * up e) (n * down e)) (eqb m 0) h)) ∙ zero-mul (up e)

pub within_plus : (n m : ℕ) (e : ℤ) → m * up e ≤ n * down e → T (within n (fin false m e))
unfolding within
within_plus n m e h = and_i (leb (m * up e) (n * down e)) true (le→leb (m * up e) (n * down e) h) tt

-- ---- a rounded fraction

-- what is rounded keeps the sign that it is given
odd_signed : (d : ℕ) (s : Bool) (q k l : ℕ) → Signed s (odd d s q k l)
unfolding odd
odd_signed d s zero k l = refl
odd_signed d s (suc q) k l = refl

units_signed : (f : Format) (s : Bool) (q k : ℕ) → Signed s (units f s q k)
unfolding units
units_signed f s q k = go (ltb (q * 2 ^ k) (2 ^ (low f + suc (emax f))))
  where
    go : (b : Bool) → Signed s (cond b (odd (suc (prec f)) s q k (low f)) (inf s))
    go true = odd_signed (suc (prec f)) s q k (low f)
    go false = refl

pub round_signed : (f : Format) (s : Bool) (a c : ℕ) → Signed s (round f s a c)
unfolding round
round_signed f s a c = units_signed f s _ _

pub cross : (a b c d n : ℕ) → 0 < d → b ≡ n * d → a * d ≤ b * c → a ≤ n * c
cross a b c d n p e h = le_of_mul-le-mul_right (le_trans h (le_of_eq (ap (λ (x : ℕ). x * c) e ∙ mul_right_comm n d c))) p

pub le-within : (n : ℕ) (x y : Float) → Signed false x → HasValue y false n 1 → T (le x y) → T (within n x)
unfolding le
le-within n nan y s v h = elim s [ ]
le-within n (inf t) nan s v h = elim v [ ]
le-within n (inf t) (inf _) s v h = elim v [ ]
le-within n (fin t m e) nan s v h = elim v [ ]
le-within n (fin t m e) (inf _) s v h = elim v [ ]
le-within n (inf t) (fin u k d) s v h = absurd (subst (λ (b : Bool). T (b || false)) s h)
le-within n (fin t m e) (fin u k d) s v h =
    subst (λ (b : Bool). T (within n (fin b m e))) (sym s)
    (within_plus n m e
    (cross (m * up e) (k * up d) (down e) (down d) n (down_pos d) (sym (mul-one (k * up d)) ∙ v.1)
    (tests_le (m * up e * down d) (k * up d * down e) true
    (subst (λ (b : Bool). T (le (fin b m e) (fin false k d))) s (subst (λ (b : Bool). T (le (fin t m e) (fin b k d))) v.0 h)))))

-- nothing, rounded, is a zero of either sign
or_true : (s : Bool) → T (not s || true)
or_true true = tt
or_true false = tt

pub zero_value : (n : ℕ) (x : Float) (s : Bool) (c : ℕ) → 0 < c → HasValue x s 0 c → T (within n x)
unfolding within
zero_value n nan s c p v = elim v [ ]
zero_value n (inf _) s c p v = elim v [ ]
zero_value n (fin t m e) s c p v =
    let z : m ≡ 0 = none_left m (up e) (up_pos e) (none_left (m * up e) c p (v.1 ∙ zero-mul (down e))) in
    subst (λ (i : ℕ). T (within n (fin t i e))) (sym z)
    (and_i (leb (0 * up e) (n * down e)) (not t || true)
    (le→leb (0 * up e) (n * down e) (subst (λ (i : ℕ). i ≤ n * down e) (sym (zero-mul (up e))) zero-le)) (or_true t))

round-zero : (n : ℕ) (s : Bool) (c : ℕ) → 0 < c → T (within n (round binary32 s 0 c))
round-zero n s c p = zero_value n (round binary32 s 0 c) s c p (round_exact binary32 s 0 c 0 0 p (lit< tt) (lit< tt) (sym (zero-mul c)))

-- a fraction from 0 to n, rounded, is within n
pub round-within : (n : ℕ) (s : Bool) (a c : ℕ) → n ≤ 16777216 → 0 < c → a ≤ n * c → (s ≡ false) ⊎ (a ≡ 0) → T (within n (round binary32 s a c))
round-within n s a c small p h (inl e) =
    subst (λ (b : Bool). T (within n (round binary32 b a c))) (sym e)
    (le-within n (round binary32 false a c) (round binary32 false n 1) (round_signed binary32 false a c) (round_whole binary32 false n small)
    (round_mono binary32 a c n 1 p (lit< tt) (subst (λ (x : ℕ). x ≤ n * c) (sym (mul-one a)) h)))
round-within n s a c small p h (inr z) = subst (λ (x : ℕ). T (within n (round binary32 s x c))) (sym z) (round-zero n s c p)

-- ---- the operations

times-le : (a b n c k d : ℕ) → a ≤ n * c → b ≤ k * d → a * b ≤ n * k * (c * d)
times-le a b n c k d h g = le_trans (mul-le-mul h g) (le_of_eq (mul-mul-mul_comm n c k d))

no_product : (a b : ℕ) → a ≡ 0 → a * b ≡ 0
no_product a b z = ap (λ (x : ℕ). x * b) z ∙ zero-mul b

pub mul-within : (n k : ℕ) (x y : Float) → n * k ≤ 16777216 → T (within n x) → T (within k y) → T (within (n * k) (mul binary32 x y))
unfolding mul within
mul-within n k nan y small h g = absurd h
mul-within n k (inf _) y small h g = absurd h
mul-within n k (fin s m e) nan small h g = absurd g
mul-within n k (fin s m e) (inf _) small h g = absurd g
mul-within n k (fin s m e) (fin t i d) small h g =
    round-within (n * k) (unlike s t) (m * up e * (i * up d)) (down e * down d) small (mul-pos (down_pos e) (down_pos d))
    (times-le (m * up e) (i * up d) n (down e) k (down d) (size-le n s m e h) (size-le k t i d g)) (go s t h g)
  where
    go : (s t : Bool) → T (within n (fin s m e)) → T (within k (fin t i d)) → (unlike s t ≡ false) ⊎ (m * up e * (i * up d) ≡ 0)
    go false false h g = inl refl
    go true t h g = inr (no_product (m * up e) (i * up d) (minus_zero n m e h))
    go false true h g = inr (mul_comm (m * up e) (i * up d) ∙ no_product (i * up d) (m * up e) (minus_zero k i d g))

-- a sum of two signed fractions over one denominator, of which only a zero may be negative
abbrev pub Plain : Bool → ℕ → Type 0
Plain s a = (s ≡ false) ⊎ (a ≡ 0)

pub nothing : {a : ℕ} → Plain true a → a ≡ 0
nothing (inl e) = absurd (subst T e tt)
nothing (inr z) = z

sum-within : (n : ℕ) (s : Bool) (a : ℕ) (t : Bool) (b c : ℕ) → n ≤ 16777216 → 0 < c → a + b ≤ n * c → Plain s a
    → Plain t b → T (within n (sum binary32 s a t b c))
unfolding sum
sum-within n false a false b c small p h g k = round-within n false (a + b) c small p h (inl refl)
sum-within n true a true b c small p h g k = round-within n true (a + b) c small p h (inr (both a b (nothing g) (nothing k)))
  where
    both : (a b : ℕ) → a ≡ 0 → b ≡ 0 → a + b ≡ 0
    both a b x y = omega arith
sum-within n false a true b c small p h g k = go (ltb a b)
  where
    none : (a b : ℕ) → b ≡ 0 → b - a ≡ 0
    none a b z = omega arith

    less : (a b r : ℕ) → a + b ≤ r → b - a ≤ r
    less a b r h = omega arith

    rest : (a b r : ℕ) → a + b ≤ r → a - b ≤ r
    rest a b r h = omega arith

    go : (q : Bool) → T (within n (cond q (round binary32 true (b - a) c) (round binary32 false (a - b) c)))
    go true = round-within n true (b - a) c small p (less a b (n * c) h) (inr (none a b (nothing k)))
    go false = round-within n false (a - b) c small p (rest a b (n * c) h) (inl refl)
sum-within n true a false b c small p h g k = go (ltb a b)
  where
    none : (a b : ℕ) → a ≡ 0 → a - b ≡ 0
    none a b z = omega arith

    less : (a b r : ℕ) → a + b ≤ r → b - a ≤ r
    less a b r h = omega arith

    rest : (a b r : ℕ) → a + b ≤ r → a - b ≤ r
    rest a b r h = omega arith

    go : (q : Bool) → T (within n (cond q (round binary32 false (b - a) c) (round binary32 (ltb b a) (a - b) c)))
    go true = round-within n false (b - a) c small p (less a b (n * c) h) (inl refl)
    go false = round-within n (ltb b a) (a - b) c small p (rest a b (n * c) h) (inr (none a b (nothing g)))

-- over the common denominator
scaled : (a n c d : ℕ) → a ≤ n * c → a * d ≤ n * (c * d)
scaled a n c d h = le_trans (mul-le-mul_right d h) (le_of_eq (mul_assoc n c d))

pub within-plain : (n : ℕ) (s : Bool) (m : ℕ) (e : ℤ) (d : ℕ) → T (within n (fin s m e)) → Plain s (m * up e * d)
within-plain n false m e d h = inl refl
within-plain n true m e d h = inr (no_product (m * up e) d (minus_zero n m e h))

pub add-within : (n k : ℕ) (x y : Float) → n + k ≤ 16777216 → T (within n x) → T (within k y) → T (within (n + k) (add binary32 x y))
unfolding add within
add-within n k nan y small h g = absurd h
add-within n k (inf _) y small h g = absurd h
add-within n k (fin s m e) nan small h g = absurd g
add-within n k (fin s m e) (inf _) small h g = absurd g
add-within n k (fin s m e) (fin t i d) small h g =
    sum-within (n + k) s (m * up e * down d) t (i * up d * down e) (down e * down d) small (mul-pos (down_pos e) (down_pos d))
    (le_trans (add-le-add (scaled (m * up e) n (down e) (down d) (size-le n s m e h))
    (subst (λ (r : ℕ). i * up d * down e ≤ k * r) (mul_comm (down d) (down e)) (scaled (i * up d) k (down d) (down e) (size-le k t i d g))))
    (le_of_eq (sym (add-mul n k (down e * down d)))))
    (within-plain n s m e (down d) h) (within-plain k t i d (down e) g)

-- a difference that is not negative
difference_within : (n : ℕ) (s : Bool) (a : ℕ) (t : Bool) (b c : ℕ) → n ≤ 16777216 → 0 < c → a ≤ n * c → b ≤ a
    → Plain s a → Plain t b → T (within n (sum binary32 s a (not t) b c))
unfolding sum
difference_within n false a false b c small p h l g k = go (ltb a b)
  where
    none : (a b : ℕ) → b ≤ a → b - a ≡ 0
    none a b z = omega arith

    go : (q : Bool) → T (within n (cond q (round binary32 true (b - a) c) (round binary32 false (a - b) c)))
    go true = round-within n true (b - a) c small p (le_trans (le_of_eq (none a b l)) zero-le) (inr (none a b l))
    go false = round-within n false (a - b) c small p (le_trans (sub-le a b) h) (inl refl)
difference_within n false a true b c small p h l g k = round-within n false (a + b) c small p (subst (λ (x : ℕ). x ≤ n * c) (same a b (nothing k)) h) (inl refl)
  where
    same : (a b : ℕ) → b ≡ 0 → a ≡ a + b
    same a b z = omega arith
difference_within n true a false b c small p h l g k =
    round-within n true (a + b) c small p (le_trans (le_of_eq (none a b (nothing g) l)) zero-le) (inr (none a b (nothing g) l))
  where
    none : (a b : ℕ) → a ≡ 0 → b ≤ a → a + b ≡ 0
    none a b z l = omega arith
difference_within n true a true b c small p h l g k = go (ltb a b)
  where
    none : (a b : ℕ) → b ≤ a → b - a ≡ 0
    none a b z = omega arith

    rest : (a b : ℕ) → a ≡ 0 → a - b ≡ 0
    rest a b z = omega arith

    go : (q : Bool) → T (within n (cond q (round binary32 false (b - a) c) (round binary32 (ltb b a) (a - b) c)))
    go true = round-within n false (b - a) c small p (le_trans (le_of_eq (none a b l)) zero-le) (inl refl)
    go false = round-within n (ltb b a) (a - b) c small p (le_trans (sub-le a b) h) (inr (rest a b (nothing g)))

-- `le` of two values of which only a zero is negative
order : (s : Bool) (a : ℕ) (t : Bool) (b : ℕ) → Plain s a → Plain t b → T (below t b s a || level t b s a) → b ≤ a
order false a false b g k h = tests_le b a true h
order true a false b g k h = le_of_eq (eqb→eq b a (and_l (eqb b a) (eqb b 0) h))
order s a true b g k h = le_trans (le_of_eq (nothing k)) zero-le

pub sub_within : (n k : ℕ) (x y : Float) → n ≤ 16777216 → T (within n x) → T (within k y) → T (le y x) → T (within n (sub binary32 x y))
unfolding sub within le
sub_within n k nan y small h g l = absurd h
sub_within n k (inf _) y small h g l = absurd h
sub_within n k (fin s m e) nan small h g l = absurd g
sub_within n k (fin s m e) (inf _) small h g l = absurd g
sub_within n k (fin s m e) (fin t i d) small h g l =
    let p = within-plain n s m e (down d) h in
    let q = within-plain k t i d (down e) g in
    difference_within n s (m * up e * down d) t (i * up d * down e) (down e * down d) small (mul-pos (down_pos e) (down_pos d))
    (scaled (m * up e) n (down e) (down d) (size-le n s m e h)) (order s (m * up e * down d) t (i * up d * down e) p q l) p q
