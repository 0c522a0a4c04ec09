-- A value brought to 0 .. hi by `max` and `min`, and cut: what `clamp` and then `cut` give, at a NaN too. Assumes nothing.
use mathlib.Core.Path.{◌≡◌, refl, sym, ap, ◌∙◌}
use Prim.Native.Nat.{ℕ, ◌*◌, ◌/◌, ◌≤◌, zero-le}
use native.Mathlib.Nat.{zero-mul, le_trans, le_of_eq, mul-le-mul_right}
use native.Mathlib.Omega.{arith}
use mathlib.Core.Bool.{Bool, true, false, not, cond, true≢false}
use borrow.Author.Tests.{le-leb, le-ltb}
use lib.IntN.{pos}
use lib.Dec.{T, lt→ltb, lit≤}
use lib.Ieee.{Float, nan, inf, fin, binary32, up, down, lt, mul, is_nan, of_bits}
use lib.Ieee.Fits.{down_pos}
use lib.Ieee.Exact.{HasValue}
use Rattle.num.specs.Const.{c0_0, c1_0, c255_0}
use Rattle.num.specs.F32.{◌⊗◌}
use Rattle.num.specs.Steps.{clamp_of, min_of, max_of, cut_of}
use Rattle.num.specs.Private.{under, floor_of}
use Rattle.num.specs.Laws.Order.{asymmetric, lt-number_right, one-above}
use Rattle.num.specs.Ranges.{within, Signed}
use Rattle.num.specs.Laws.Within.{size-le, round_signed}
use Rattle.num.specs.Laws.Bounds.{zero-within, between, clamp_within, clamp_nan, cut-within, one-is, times-within}

-- ---- a value from +0 to 1023: its whole part is its cut

floor_is-cut : (n : ℕ) (x : Float) → n ≤ 1023 → Signed false x → T (within n x) → T (under 1024 x) × (floor_of x ≡ cut_of x)
unfolding within under floor_of cut_of
floor_is-cut n nan l s h = elim s [ ]
floor_is-cut n (inf _) l s h = elim h [ ]
floor_is-cut n (fin true m e) l s h = absurd (true≢false s)
floor_is-cut n (fin false m e) l s h =
    let k : m * up e ≤ 1023 * down e = le_trans (size-le n false m e h) (mul-le-mul_right (down e) l) in
    (lt→ltb (m * up e) (1024 * down e) (omega (arith, down_pos e)), sym (ap (λ (b : Bool). cond b (m * up e / down e) 0) (le-leb (m * up e) (1023 * down e) k)))

positive : (x : Float) → lt c0_0 x ≡ true → Signed false x
unfolding lt of_bits
positive nan h = absurd (true≢false (sym h))
positive (inf true) h = absurd (true≢false (sym h))
positive (inf false) h = refl
positive (fin true m e) h = absurd (true≢false (sym h))
positive (fin false m e) h = refl

-- ---- x above 0: `max` and `min` give what `clamp` gives

module _ (x hi : Float) (p : lt c0_0 hi ≡ true) where
  above : lt c0_0 x ≡ true → min_of hi (max_of x c0_0) ≡ clamp_of x c0_0 hi
  unfolding min_of max_of clamp_of
  above h = rw h (rw (asymmetric c0_0 x h))

  above_signed : lt c0_0 x ≡ true → Signed false (clamp_of x c0_0 hi)
  unfolding clamp_of
  above_signed h = rw (asymmetric c0_0 x h) (go (lt hi x))
    where
      go : (q : Bool) → Signed false (cond q hi x)
      go true = positive hi p
      go false = positive x h

  -- ---- x not above 0: they give 0, and `clamp` a zero or a NaN

  low : lt c0_0 x ≡ false → min_of hi (max_of x c0_0) ≡ c0_0
  unfolding min_of max_of
  low h = rw h (rw (asymmetric c0_0 hi p))

none_above : (hi x : Float) → lt c0_0 hi ≡ true → T (within 0 x) → lt hi x ≡ false
unfolding lt within of_bits
none_above (inf false) nan p h = elim h [ ]
none_above (inf false) (inf _) p h = elim h [ ]
none_above (fin false i d) nan p h = elim h [ ]
none_above (fin false i d) (inf _) p h = elim h [ ]
none_above nan x p h = refl
none_above (inf true) x p h = absurd (true≢false (sym p))
none_above (inf false) (fin s m e) p h = refl
none_above (fin true i d) x p h = absurd (true≢false (sym p))
none_above (fin false i d) (fin true m e) p h = refl
none_above (fin false i d) (fin false m e) p h =
    let z : m * up e ≡ 0 = omega (arith, size-le 0 false m e h, zero-mul (down e)) in
    le-ltb (i * up d * down e) (m * up e * down d) (le_trans (le_of_eq (ap (λ (a : ℕ). a * down d) z ∙ zero-mul (down d))) zero-le)

zero_is : HasValue c0_0 false 0 1
unfolding of_bits
zero_is = (refl, refl)

zero_signed : Signed false c0_0
unfolding of_bits
zero_signed = refl

low_within : (x hi : Float) → lt c0_0 hi ≡ true → T (not (is_nan x)) → lt c0_0 x ≡ false → T (within 0 (clamp_of x c0_0 hi))
unfolding clamp_of
low_within x hi p k h = go (lt x c0_0) refl
  where
    go : (q : Bool) → lt x c0_0 ≡ q → T (within 0 (cond q c0_0 (cond (lt hi x) hi x)))
    go true a = zero-within 0
    go false a = let w = between 0 x c0_0 zero_is k a h in rw (none_above hi x p w) w

none : (x : Float) → T (within 0 x) → 0 ≡ cut_of x
none x h = omega (arith, cut-within 0 x h)

low_cut : (x hi : Float) → lt c0_0 hi ≡ true → lt c0_0 x ≡ false → 0 ≡ cut_of (clamp_of x c0_0 hi)
unfolding cut_of is_nan
low_cut nan hi p h = sym (ap cut_of (clamp_nan c0_0 hi))
low_cut (inf s) hi p h = none _ (low_within (inf s) hi p tt h)
low_cut (fin s m e) hi p h = none _ (low_within (fin s m e) hi p tt h)

-- ---- clamped, then cut

pub top_above : lt c0_0 c255_0 ≡ true
unfolding lt of_bits
top_above = refl

pub clamped_cut : (n : ℕ) (x hi : Float) → n ≤ 1023 → HasValue hi false n 1 → lt c0_0 hi ≡ true → T (under 1024 (min_of hi (max_of x c0_0))) × (floor_of (min_of hi (max_of x c0_0)) ≡ cut_of (clamp_of x c0_0 hi))
clamped_cut n x hi l v p = go (lt c0_0 x) refl
  where
    go : (q : Bool) → lt c0_0 x ≡ q → T (under 1024 (min_of hi (max_of x c0_0))) × (floor_of (min_of hi (max_of x c0_0)) ≡ cut_of (clamp_of x c0_0 hi))
    go true h = rw (above x hi p h) (floor_is-cut n (clamp_of x c0_0 hi) l (above_signed x hi p h) (clamp_within n x hi v (lt-number_right c0_0 x h)))
    go false h =
        let z = floor_is-cut 0 c0_0 zero-le zero_signed (zero-within 0) in
        rw (low x hi p h) (z.0, z.1 ∙ sym (none c0_0 (zero-within 0)) ∙ low_cut x hi p h)

-- ---- clamped to 0 .. 1, times 255, then cut

times_signed : (n : ℕ) (y : Float) → T (within n y) → Signed false y → Signed false (y ⊗ c255_0)
unfolding within mul of_bits
times_signed n nan h s = elim h [ ]
times_signed n (inf _) h s = elim h [ ]
times_signed n (fin true m e) h s = absurd (true≢false s)
times_signed n (fin false m e) h s = round_signed binary32 false (m * up e * (255 * up (pos 0))) (down e * down (pos 0))

low_times : (x : Float) → lt c0_0 x ≡ false → 0 ≡ cut_of (clamp_of x c0_0 c1_0 ⊗ c255_0)
unfolding cut_of is_nan mul
low_times nan h = sym (ap (λ (y : Float). cut_of (y ⊗ c255_0)) (clamp_nan c0_0 c1_0))
low_times (inf s) h = none _ (times-within 0 _ zero-le (low_within (inf s) c1_0 one-above tt h))
low_times (fin s m e) h = none _ (times-within 0 _ zero-le (low_within (fin s m e) c1_0 one-above tt h))

pub unit_clamped_cut : (x : Float) → T (under 1024 (min_of c1_0 (max_of x c0_0) ⊗ c255_0)) × (floor_of (min_of c1_0 (max_of x c0_0) ⊗ c255_0) ≡ cut_of (clamp_of x c0_0 c1_0 ⊗ c255_0))
unit_clamped_cut x = go (lt c0_0 x) refl
  where
    go : (q : Bool) → lt c0_0 x ≡ q → T (under 1024 (min_of c1_0 (max_of x c0_0) ⊗ c255_0)) × (floor_of (min_of c1_0 (max_of x c0_0) ⊗ c255_0) ≡ cut_of (clamp_of x c0_0 c1_0 ⊗ c255_0))
    go true h =
        let w = clamp_within 1 x c1_0 one-is (lt-number_right c0_0 x h) in
        rw (above x c1_0 one-above h) (floor_is-cut 255 (clamp_of x c0_0 c1_0 ⊗ c255_0) (lit≤ tt) (times_signed 1 _ w (above_signed x c1_0 one-above h)) (times-within 1 _ (lit≤ tt) w))
    go false h =
        let w = times-within 0 c0_0 zero-le (zero-within 0) in
        let z = floor_is-cut 0 (c0_0 ⊗ c255_0) zero-le (times_signed 0 c0_0 (zero-within 0) zero_signed) w in
        rw (low x c1_0 one-above h) (z.0, z.1 ∙ sym (none (c0_0 ⊗ c255_0) w) ∙ low_times x h)
