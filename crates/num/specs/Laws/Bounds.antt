-- The number steps and bounds: cut, round, clamp and minimum stay `within` a bound, and what cut makes of a rounded value. Assumes nothing.
use Rattle.std.specs.Prelude.{◌≡◌, ℕ, suc, ◌+◌, ◌*◌, ◌/◌, ◌≤◌, ◌<◌, Bool, not, ◌&&◌, ◌||◌, cond, ℤ, pos, leb, eqb, Float}
use Rattle.std.proofs.Math.Path.{refl}
use Rattle.std.proofs.Common.{sym, ap, ◌∙◌, subst, inl, inr, zero-le, mul-one, mul_comm, mul-pos, mul-le-mul_right, le_trans, le_of_eq}
use Rattle.std.proofs.Common.{le_of_suc-le-suc, div-lt_iff_lt-mul, mul-div_cancel, suc-mul, mul_left_comm, arith, true≢false, ltb-false, le-leb}
use Rattle.std.proofs.Common.{leb→le, le→leb, lit<, lit≤}
use Rattle.std.proofs.Math.Nat.{div-le_of_le-mul, div-eq_of_lt}
use Rattle.std.proofs.Math.Bool.{true, false}
use Rattle.std.proofs.lemmas.Bool.{lt-leb}
use Rattle.std.proofs.Math.Dec.{T}
use Rattle.std.specs.Float.{nan, inf, fin, binary32}
use Rattle.std.specs.Float.Ieee.{up, down, round, mul, lt, le, is_nan, of_int, of_bits, in_float}
use Rattle.std.specs.Float.Ieee.Fits.{down_pos, and_r, and_i}
use Rattle.std.specs.Float.Ieee.Exact.{HasValue}
use Rattle.std.specs.Float.Ieee.Back.{round_whole}
use Rattle.num.specs.Const.{c0_0, c1_0, c255_0}
use Rattle.num.specs.F32.{◌⊖◌, ◌⊗◌, whole}
use Rattle.num.specs.Steps.{clamp_of, min_of, cut_of, round_of}
use Rattle.num.specs.Laws.Order.{tests_le, asymmetric, lt-number}
use Rattle.num.specs.Ranges.{within, Signed}
use Rattle.num.specs.Laws.Within.{size-le, minus_zero, within_plus, cross, zero_value, round-within}
use Rattle.num.specs.Laws.Within.{mul-within, Plain, sub_within}

-- ---- cut and round

pub cut-within : (n : ℕ) (x : Float) → T (within n x) → cut_of x ≤ n
unfolding within cut_of
cut-within n nan h = elim h [ ]
cut-within n (inf _) h = elim h [ ]
cut-within n (fin s m e) h = go (not s && leb (m * up e) (1023 * down e))
  where
    go : (b : Bool) → cond b (m * up e / down e) 0 ≤ n
    go true = div-le_of_le-mul (down e) (subst (λ (x : ℕ). m * up e ≤ x) (mul_comm n (down e)) (size-le n s m e h))
    go false = zero-le

pub cut-le : (x : Float) → cut_of x ≤ 1023
unfolding cut_of
cut-le nan = zero-le
cut-le (inf s) = zero-le
cut-le (fin true m e) = zero-le
cut-le (fin false m e) = go (leb (m * up e) (1023 * down e)) refl
  where
    go : (b : Bool) → leb (m * up e) (1023 * down e) ≡ b → cond b (m * up e / down e) 0 ≤ 1023
    go true h = div-le_of_le-mul (down e) (subst (λ (x : ℕ). m * up e ≤ x) (mul_comm 1023 (down e)) (leb→le (m * up e) (1023 * down e) (subst T (sym h) tt)))
    go false h = zero-le

pub round-step-within : (n : ℕ) (x : Float) → n ≤ 16777216 → T (within n x) → T (within n (round_of x))
unfolding within round_of
round-step-within n nan small h = elim h [ ]
round-step-within n (inf _) small h = elim h [ ]
round-step-within n (fin s m e) small h =
    round-within n s ((2 * (m * up e) + down e) / (2 * down e)) 1 small (lit< tt)
    (subst (λ (r : ℕ). (2 * (m * up e) + down e) / (2 * down e) ≤ r) (sym (mul-one n))
    (nearest_le (m * up e) (down e) n (size-le n s m e h) (down_pos e)))
    (go s h)
  where
    nearest_le : (a c n : ℕ) → a ≤ n * c → 0 < c → (2 * a + c) / (2 * c) ≤ n
    nearest_le a c n h p =
        le_of_suc-le-suc ((div-lt_iff_lt-mul (mul-pos (lit< tt) p)).1
        (fine a c (n * c) (suc n * (2 * c)) (suc-mul n (2 * c) ∙ ap (λ (x : ℕ). x + 2 * c) (mul_left_comm n 2 c)) h p))
      where
        fine : (a c r w : ℕ) → w ≡ 2 * r + 2 * c → a ≤ r → 0 < c → 2 * a + c < w
        fine a c r w e h p = omega arith

    go : (s : Bool) → T (within n (fin s m e)) → Plain s ((2 * (m * up e) + down e) / (2 * down e))
    go false h = inl refl
    go true h = inr (ap (λ (a : ℕ). (2 * a + down e) / (2 * down e)) (minus_zero n m e h) ∙ div-eq_of_lt (half (down e) (down_pos e)))
      where
        half : (c : ℕ) → 0 < c → 0 + c < 2 * c
        half c p = omega arith

-- ---- clamp and minimum, from 0 to an end of whole value

pub value_within : (n : ℕ) (x : Float) → HasValue x false n 1 → T (within n x)
value_within n nan v = elim v [ ]
value_within n (inf _) v = elim v [ ]
value_within n (fin t m e) v = subst (λ (b : Bool). T (within n (fin b m e))) (sym v.0) (within_plus n m e (le_of_eq (sym (mul-one (m * up e)) ∙ v.1)))

pub widen : (n k : ℕ) (x : Float) → n ≤ k → T (within n x) → T (within k x)
unfolding within
widen n k nan l h = elim h [ ]
widen n k (inf _) l h = elim h [ ]
widen n k (fin s m e) l h =
    and_i (leb (m * up e) (k * down e)) (not s || eqb m 0) (le→leb (m * up e) (k * down e) (le_trans (size-le n s m e h) (mul-le-mul_right (down e) l)))
    (and_r (leb (m * up e) (n * down e)) (not s || eqb m 0) h)

pub zero-within : (n : ℕ) → T (within n c0_0)
unfolding of_bits
zero-within n = within_plus n 0 (pos 0) zero-le

-- neither below 0 nor above the end, and no NaN
pub between : (n : ℕ) (x hi : Float) → HasValue hi false n 1 → T (not (is_nan x)) → lt x c0_0 ≡ false → lt hi x ≡ false → T (within n x)
unfolding within is_nan lt of_bits
between n (inf false) nan v k a b = elim v [ ]
between n (inf false) (inf _) v k a b = elim v [ ]
between n (fin false m e) nan v k a b = elim v [ ]
between n (fin false m e) (inf _) v k a b = elim v [ ]
between n nan hi v k a b = absurd k
between n (inf true) hi v k a b = absurd (true≢false a)
between n (inf false) (fin u i d) v k a b = absurd (true≢false b)
between n (fin false m e) (fin true i d) v k a b = absurd (true≢false v.0)
between n (fin false m e) (fin false i d) v k a b =
    within_plus n m e (cross (m * up e) (i * up d) (down e) (down d) n (down_pos d) (sym (mul-one (i * up d)) ∙ v.1)
    (ltb-false (i * up d * down e) (m * up e * down d) b))
between n (fin true m e) hi v k a b =
    zero_value n (fin true m e) true 1 (lit< tt) (refl, none (m * up e * 1) (0 * down e) (ltb-false 0 (m * up e * 1 + 0 * down e) a))
  where
    none : (a b : ℕ) → a + b ≤ 0 → a ≡ b
    none a b h = omega arith

module _ (n : ℕ) (x hi : Float) (v : HasValue hi false n 1) where
  pub clamp_within : T (not (is_nan x)) → T (within n (clamp_of x c0_0 hi))
  unfolding clamp_of
  clamp_within k = go (lt x c0_0) (lt hi x) refl refl
    where
      go : (p q : Bool) → lt x c0_0 ≡ p → lt hi x ≡ q → T (within n (cond p c0_0 (cond q hi x)))
      go true q a b = zero-within n
      go false true a b = value_within n hi v
      go false false a b = between n x hi v k a b

  -- the lesser of x and the end, for an x that is not negative or is no number: vignette's min(distance * strength, 1)
  pub min-within : lt x c0_0 ≡ false → T (within n (min_of x hi))
  unfolding min_of
  min-within h = go (lt x hi) refl
    where
      go : (b : Bool) → lt x hi ≡ b → T (within n (cond b x hi))
      go true k = between n x hi v (lt-number x hi k) h (asymmetric x hi k)
      go false k = value_within n hi v

-- a NaN stays one, and is cut to 0: a clamped value, cut, whatever it was
pub clamp_nan : (lo hi : Float) → clamp_of nan lo hi ≡ nan
unfolding clamp_of
clamp_nan lo nan = refl
clamp_nan lo (inf s) = refl
clamp_nan lo (fin s m e) = refl

pub clamp_cut : (n : ℕ) (x hi : Float) → HasValue hi false n 1 → cut_of (clamp_of x c0_0 hi) ≤ n
unfolding cut_of is_nan
clamp_cut n nan hi v = le_trans (le_of_eq (ap cut_of (clamp_nan c0_0 hi))) zero-le
clamp_cut n (inf s) hi v = cut-within n (clamp_of (inf s) c0_0 hi) (clamp_within n (inf s) hi v tt)
clamp_cut n (fin s m e) hi v = cut-within n (clamp_of (fin s m e) c0_0 hi) (clamp_within n (fin s m e) hi v tt)

-- the ends of the passes
pub one-is : HasValue c1_0 false 1 1
unfolding of_bits
one-is = (refl, refl)

pub top_is : HasValue c255_0 false 255 1
unfolding of_bits
top_is = (refl, refl)

-- clamped to 0 .. 1, times 255: a channel
top_within : T (within 255 c255_0)
top_within = value_within 255 c255_0 top_is

pub times-within : (n : ℕ) (y : Float) → n ≤ 1 → T (within n y) → T (within (n * 255) (y ⊗ c255_0))
times-within n y l h = mul-within n 255 y c255_0 (le_trans (mul-le-mul_right 255 l) (lit≤ tt)) h top_within

pub unit-cut : (x : Float) → cut_of (clamp_of x c0_0 c1_0 ⊗ c255_0) ≤ 255
unfolding cut_of is_nan mul
unit-cut nan = le_trans (le_of_eq (ap (λ (y : Float). cut_of (y ⊗ c255_0)) (clamp_nan c0_0 c1_0))) zero-le
unit-cut (inf s) = cut-within 255 _ (times-within 1 _ (lit≤ tt) (clamp_within 1 (inf s) c1_0 one-is tt))
unit-cut (fin s m e) = cut-within 255 _ (times-within 1 _ (lit≤ tt) (clamp_within 1 (fin s m e) c1_0 one-is tt))

-- ---- a factor from 0 to 1, and whole numbers

pub one_less_within : (x : Float) → T (within 1 x) → T (le x c1_0) → T (within 1 (c1_0 ⊖ x))
one_less_within x h l = sub_within 1 1 c1_0 x (lit≤ tt) (value_within 1 c1_0 one-is) h l

pub int_within : (n : ℕ) → n ≤ 16777216 → T (within n (whole n))
unfolding of_int
int_within n small = value_within n (round binary32 false n 1) (round_whole binary32 false n small)

-- ---- round, then cut

pub cut_value : (n : ℕ) (x : Float) → HasValue x false n 1 → n ≤ 1023 → cut_of x ≡ n
unfolding cut_of
cut_value n nan v l = elim v [ ]
cut_value n (inf _) v l = elim v [ ]
cut_value n (fin s m e) v l =
    let a : m * up e ≡ n * down e = sym (mul-one (m * up e)) ∙ v.1 in
    ap (λ (b : Bool). cond (not b && leb (m * up e) (1023 * down e)) (m * up e / down e) 0) v.0
    ∙ ap (λ (b : Bool). cond b (m * up e / down e) 0) (le-leb (m * up e) (1023 * down e) (le_trans (le_of_eq a) (mul-le-mul_right (down e) l)))
    ∙ ap (λ (i : ℕ). i / down e) a
    ∙ mul-div_cancel n (down_pos e)

-- of a value that is not negative and below 1023.5
pub cut-round : (m : ℕ) (e : ℤ) → m * up e * 2 < 2047 * down e → cut_of (round_of (fin false m e)) ≡ (2 * (m * up e) + down e) / (2 * down e)
unfolding round_of
cut-round m e l =
    let n = (2 * (m * up e) + down e) / (2 * down e) in
    let h : n < 1024 = (div-lt_iff_lt-mul (mul-pos (lit< tt) (down_pos e))).1 (fine (m * up e) (down e) l) in
    cut_value n (round binary32 false n 1) (round_whole binary32 false n (omega arith)) (omega arith)
  where
    fine : (a c : ℕ) → a * 2 < 2047 * c → 2 * a + c < 1024 * (2 * c)
    fine a c h = omega arith

-- a negative value, and one from 1024 on
pub cut-negative : (x : Float) → Signed true x → 0 ≡ cut_of x
unfolding cut_of
cut-negative nan s = elim s [ ]
cut-negative (inf t) s = refl
cut-negative (fin t m e) s = ap (λ (b : Bool). cond (not b && leb (m * up e) (1023 * down e)) (m * up e / down e) 0) (sym s)

pub cut_large : (x : Float) → T (le (fin false 1 (pos 10)) x) → 0 ≡ cut_of x
unfolding le cut_of
cut_large nan h = refl
cut_large (inf s) h = refl
cut_large (fin true m e) h = refl
cut_large (fin false m e) h =
    sym (ap (λ (b : Bool). cond b (m * up e / down e) 0)
    (lt-leb (m * up e) (1023 * down e) (more (m * up e) (down e) (tests_le (1024 * down e) (m * up e * 1) true h) (down_pos e))))
  where
    more : (a c : ℕ) → 1024 * c ≤ a * 1 → 0 < c → 1023 * c < a
    more a c h p = omega arith

-- ---- a whole number up to 2 ^ 24 `as f32` loses nothing

pub in_float_lem : (n : ℕ) → n ≤ 16777216 → T (in_float binary32 (pos n))
unfolding in_float
in_float_lem n h = le→leb n 16777216 h
