-- Curvature's index: a coordinate that is neither below -1 nor above 1, or is no number, gives a row or column that is there
-- (`index_lt`). Assumes nothing.
use Rattle.std.specs.Prelude.{◌≡◌, refl, ℕ, ◌-◌, ◌*◌, ◌≤◌, ◌<◌, Bool, true, false, not, cond, pos, T, ltb, Float}
use Rattle.std.proofs.Common.{sym, ap, ◌∙◌, subst, inl, inr, zero-le, mul-one, one-mul, mul_comm, mul_assoc, mul-pos, le_trans, le_of_eq, arith}
use Rattle.std.proofs.Common.{true≢false, ltb-false, lit<, lit≤}
use Rattle.std.specs.Float.{nan, inf, fin, binary32}
use Rattle.std.specs.Float.Ieee.{up, down, unlike, round, add, mul, neg, lt, is_nan, of_bits}
use Rattle.std.specs.Float.Ieee.Fits.{down_pos}
use Rattle.num.specs.Const.{c0_5, c1_0}
use Rattle.num.specs.F32.{◌⊕◌, ◌⊗◌, whole}
use Rattle.num.specs.Steps.{cut_of, round_of}
use Rattle.num.specs.Ranges.{within}
use Rattle.num.specs.Laws.Within.{size-le, minus_zero, within_plus, round-within, mul-within, Plain}
use Rattle.num.specs.Laws.Within.{add-within}
use Rattle.num.specs.Laws.Bounds.{cut-within, round-step-within, int_within}
use Rattle.num.specs.Index.{index_of}

half-within : (n : ℕ) (x : Float) → n ≤ 16777216 → T (within (2 * n) x) → T (within n (x ⊗ c0_5))
unfolding mul within of_bits
half-within n nan small h = absurd h
half-within n (inf s) small h = absurd h
half-within n (fin s m e) small h =
    round-within n (unlike s false) (m * up e * 1) (down e * 2) small (mul-pos (down_pos e) (lit< tt))
    (le_trans (le_of_eq (mul-one (m * up e))) (le_trans (size-le (2 * n) s m e h) (le_of_eq (regroup n (down e))))) (go s h)
  where
    regroup : (n c : ℕ) → 2 * n * c ≡ n * (c * 2)
    regroup n c = ap (λ (x : ℕ). x * c) (mul_comm 2 n) ∙ mul_assoc n 2 c ∙ ap (λ (x : ℕ). n * x) (mul_comm 2 c)

    go : (s : Bool) → T (within (2 * n) (fin s m e)) → Plain (unlike s false) (m * up e * 1)
    go false h = inl refl
    go true h = inr (mul-one (m * up e) ∙ minus_zero (2 * n) m e h)

one_more_within : (x : Float) → T (not (is_nan x)) → lt x (neg c1_0) ≡ false → lt c1_0 x ≡ false → T (within 2 (x ⊕ c1_0))
unfolding lt add neg is_nan of_bits
one_more_within nan k h g = absurd k
one_more_within (inf true) k h g = absurd (true≢false h)
one_more_within (inf false) k h g = absurd (true≢false g)
one_more_within (fin false m e) k h g =
    add-within 1 1 (fin false m e) (fin false 1 (pos 0)) (lit≤ tt)
    (within_plus 1 m e (subst (λ (a : ℕ). a ≤ 1 * down e) (mul-one (m * up e)) (ltb-false (1 * down e) (m * up e * 1) g)))
    (within_plus 1 1 (pos 0) (lit≤ tt))
one_more_within (fin true m e) k h g = go (ltb (m * up e * 1) (1 * down e))
  where
    none : m * up e * 1 - 1 * down e ≡ 0
    none = let l = ltb-false (1 * down e) (m * up e * 1) h in omega arith

    size : (a c : ℕ) → 1 * c - a ≤ 2 * (c * 1)
    size a c = omega arith

    go : (q : Bool)
        → T (within 2 (cond q (round binary32 false (1 * down e - m * up e * 1) (down e * 1))
        (round binary32 (ltb (1 * down e) (m * up e * 1)) (m * up e * 1 - 1 * down e) (down e * 1))))
    go true = round-within 2 false (1 * down e - m * up e * 1) (down e * 1) (lit≤ tt) (mul-pos (down_pos e) (lit< tt)) (size (m * up e * 1) (down e)) (inl refl)
    go false =
        round-within 2 (ltb (1 * down e) (m * up e * 1)) (m * up e * 1 - 1 * down e) (down e * 1) (lit≤ tt)
        (mul-pos (down_pos e) (lit< tt)) (le_trans (le_of_eq none) zero-le) (inr none)

-- the value that is rounded and cut lies from 0 to the last place
pub index_within : (w : ℕ) (x : Float) → w ≤ 1024 → T (not (is_nan x)) → lt x (neg c1_0) ≡ false → lt c1_0 x ≡ false
    → T (within (w - 1) ((x ⊕ c1_0) ⊗ c0_5 ⊗ whole (w - 1)))
index_within w x l k h g =
    let y = (x ⊕ c1_0) ⊗ c0_5 in
    let s : w - 1 ≤ 16777216 = omega arith in
    subst (λ (n : ℕ). T (within n (y ⊗ whole (w - 1)))) (one-mul (w - 1))
    (mul-within 1 (w - 1) y (whole (w - 1)) (le_trans (le_of_eq (one-mul (w - 1))) s)
    (half-within 1 (x ⊕ c1_0) (lit≤ tt) (one_more_within x k h g)) (int_within (w - 1) s))

number_index_lt : (w : ℕ) (x : Float) → 0 < w → w ≤ 1024 → T (not (is_nan x)) → lt x (neg c1_0) ≡ false → lt c1_0 x ≡ false → index_of w x < w
number_index_lt w x p l k h g =
    let y = (x ⊕ c1_0) ⊗ c0_5 ⊗ whole (w - 1) in
    let s : w - 1 ≤ 16777216 = omega arith in
    omega (arith, cut-within (w - 1) (round_of y) (round-step-within (w - 1) y s (index_within w x l k h g)))

nan_index : (w : ℕ) → index_of w nan ≡ 0
unfolding add mul round_of cut_of
nan_index w = refl

pub index_lt : (w : ℕ) (x : Float) → 0 < w → w ≤ 1024 → lt x (neg c1_0) ≡ false → lt c1_0 x ≡ false → index_of w x < w
unfolding is_nan
index_lt w nan p l h g = subst (λ (n : ℕ). n < w) (sym (nan_index w)) p
index_lt w (inf s) p l h g = number_index_lt w (inf s) p l tt h g
index_lt w (fin s m e) p l h g = number_index_lt w (fin s m e) p l tt h g
