-- `num::whole::round` meets its contract. Below 2 ^ 23 in size, the whole part of |x| + 1/2 gets x's sign; from 2 ^ 23 on every value is whole.
-- Assumes nothing.
use mathlib.Core.Path.{◌≡◌, refl, sym, ap, ◌∙◌, subst}
use Prim.Native.Nat.{ℕ, zero, suc, ◌+◌, ◌*◌, ◌/◌, ◌%◌, ◌^◌, ◌≤◌, ◌<◌}
use native.Mathlib.Nat.{zero-mul, mul-one, mul-pos, mul_assoc, mul-lt-mul_of_pos_right, le_of_suc-le-suc, div-lt_iff_lt-mul, pow-succ'}
use native.Mathlib.Omega.{arith}
use mathlib.Core.Bool.{Bool, true, false, not, ◌&&◌, cond, true≢false}
use borrow.Author.Tests.{ltb-true, ltb-false}
use lib.IntN.{pos, negsuc}
use lib.Dec.{T, leb, ltb, eqb, ltb→lt, lt→ltb, lit<}
use lib.Pow.{pow-add, pow_pos}
use lib.Ieee.{Float, nan, inf, fin, binary32, up, down, lt, neg, fits, is_nan, of_int, of_bits, round}
use lib.Ieee.Fits.{down_pos, round-fits, and_l, and_r}
use lib.Ieee.Exact.{round_exact}
use lib.Ieee.Back.{whole_unique}
use Rattle.num.specs.Const.{c0_0, c8388608_0}
use Rattle.num.specs.F32.{whole}
use Rattle.num.specs.Steps.{abs_of, round_of}
use Rattle.num.specs.Private.{under, half_up_of, negative}
use Rattle.num.specs.Laws.Signs.{round-neg}
use Rattle.num.proofs.whole.round.Goals as goal

-- ---- below 2 ^ 23 in size
-- x, or 0 in its place
abbrev small_of : Float → Float
small_of x = cond (lt (abs_of x) c8388608_0) x c0_0

below : (x : Float) → lt (abs_of x) c8388608_0 ≡ true → T (under 8388608 (abs_of x)) × T (not (is_nan x))
unfolding lt abs_of under is_nan of_bits
below nan h = absurd (true≢false (sym h))
below (inf s) h = absurd (true≢false (sym h))
below (fin s m e) h = let l = ltb-true (m * up e * 1) (8388608 * down e) h in (lt→ltb (m * up e) (8388608 * down e) (omega arith), tt)

zero-below : T (under 8388608 (abs_of c0_0)) × T (not (is_nan c0_0))
unfolding abs_of under is_nan of_bits
zero-below = (tt, tt)

small-below : (x : Float) → T (under 8388608 (abs_of (small_of x))) × T (not (is_nan (small_of x)))
small-below x = go (lt (abs_of x) c8388608_0) refl
  where
    go : (b : Bool) → lt (abs_of x) c8388608_0 ≡ b → T (under 8388608 (abs_of (cond b x c0_0))) × T (not (is_nan (cond b x c0_0)))
    go true h = below x h
    go false h = zero-below

half_up_le : (v : Float) → T (under 8388608 v) → half_up_of v ≤ 8388608
unfolding under half_up_of
half_up_le nan h = elim h [ ]
half_up_le (inf _) h = elim h [ ]
half_up_le (fin true m e) h = elim h [ ]
half_up_le (fin false m e) h =
    let l = ltb→lt (m * up e) (8388608 * down e) h in
    let p = down_pos e in
    le_of_suc-le-suc ((div-lt_iff_lt-mul (mul-pos (lit< tt) (down_pos e))).1 (omega arith))

with_sign : (x : Float) → lt (abs_of x) c8388608_0 ≡ true → cond (negative x) (neg (whole (half_up_of (abs_of x)))) (whole (half_up_of (abs_of x))) ≡ round_of x
unfolding lt abs_of half_up_of negative round_of of_int of_bits
with_sign nan h = absurd (true≢false (sym h))
with_sign (inf s) h = absurd (true≢false (sym h))
with_sign (fin false m e) h = refl
with_sign (fin true m e) h = sym (round-neg binary32 ((2 * (m * up e) + down e) / (2 * down e)) 1)

-- ---- from 2 ^ 23 on: the value is whole, and is its own nearest whole number
itself : (a : ℕ) → (2 * a + 1) / 2 ≡ a
itself a = omega arith

whole_is : (s : Bool) (m a : ℕ) → T (fits binary32 (fin s m (pos a))) → m < 2 ^ 24 → m * 2 ^ a < 2 ^ 128 → fin s m (pos a) ≡ round binary32 s (m * 2 ^ a) 1
whole_is s m a f small fine =
    whole_unique binary32 (fin s m (pos a)) (round binary32 s (m * 2 ^ a) 1) s (m * 2 ^ a) f (round-fits binary32 s (m * 2 ^ a) 1) (refl, refl)
    (round_exact binary32 s (m * 2 ^ a) 1 m (a + 149) (lit< tt) small
    (subst (λ (x : ℕ). x < 2 ^ 277) shift (mul-lt-mul_of_pos_right fine (pow_pos 149)))
    (shift ∙ sym (mul-one (m * 2 ^ (a + 149)))))
  where
    shift : m * 2 ^ a * 2 ^ 149 ≡ m * 2 ^ (a + 149)
    shift = mul_assoc m (2 ^ a) (2 ^ 149) ∙ ap (λ (x : ℕ). m * x) (sym (pow-add 2 a 149))

too_fine : (m p : ℕ) → 8388608 * (2 * p) ≤ m * 1 * 1 → m < 16777216 → 0 < p → ⊥
too_fine m p h l q = omega arith

no_zero : (u c : ℕ) → 8388608 * c ≤ 0 * u * 1 → 0 < c → ⊥
no_zero u c h p = omega (arith, zero-mul u)

large : (x : Float) → T (fits binary32 x) → lt (abs_of x) c8388608_0 ≡ false → x ≡ round_of x
unfolding lt abs_of round_of of_bits fits
large nan f h = refl
large (inf s) f h = refl
large (fin s zero e) f h = absurd (no_zero (up e) (down e) (ltb-false (0 * up e * 1) (8388608 * down e) h) (down_pos e))
large (fin s (suc m) (pos a)) f h =
    let A = eqb (suc m % 2) 1 in
    let B = ltb (suc m) 16777216 in
    let C = leb 1 (2 ^ 149) in
    let D = ltb (suc m * 2 ^ a) (2 ^ 128) in
    whole_is s (suc m) a f (ltb→lt (suc m) 16777216 (and_r A B (and_l (A && B) C (and_l (A && B && C) D f)))) (ltb→lt (suc m * 2 ^ a) (2 ^ 128) (and_r (A && B && C) D f))
    ∙ ap (λ (n : ℕ). round binary32 s n 1) (sym (itself (suc m * 2 ^ a)))
large (fin s (suc m) (negsuc a)) f h =
    let A = eqb (suc m % 2) 1 in
    let B = ltb (suc m) 16777216 in
    let C = leb (2 ^ suc a) (2 ^ 149) in
    let D = ltb (suc m * 1) (2 ^ 128 * 2 ^ suc a) in
    absurd
    (too_fine (suc m) (2 ^ a)
    (subst (λ (x : ℕ). 8388608 * x ≤ suc m * 1 * 1) (pow-succ' 2 a) (ltb-false (suc m * 1 * 1) (8388608 * 2 ^ suc a) h))
    (ltb→lt (suc m) 16777216 (and_r A B (and_l (A && B) C (and_l (A && B && C) D f))))
    (pow_pos a))

-- ---- the needs
pub half_up-requires : goal.half_up-requires
half_up-requires c = let y = c.small-y in
    subst (λ (v : Float). T (under 8388608 v)) (sym (c.abs.ensures ∙ ap abs_of y.ensures)) (small-below c.args.x).0

pub float-requires : goal.float-requires
float-requires c = let a = c.abs in
    let y = c.small-y in
    subst (λ (n : ℕ). n ≤ 8388608) (sym (c.half_up.ensures ∙ ap half_up_of (a.ensures ∙ ap abs_of y.ensures))) (half_up_le (abs_of (small_of c.args.x)) (small-below c.args.x).0)

pub signed-rounded-requires : goal.signed-rounded-requires
signed-rounded-requires c = let y = c.small-y in
    subst (λ (v : Float). T (not (is_nan v))) (sym y.ensures) (small-below c.args.x).1

pub returns-then-abs : goal.returns-then-abs
returns-then-abs c = let x = c.args.x in
    let taken : lt (abs_of x) c8388608_0 ≡ true = subst (λ (v : Float). lt v c8388608_0 ≡ true) c.abs-2.ensures c.if-abs.true in
    let own : c.small-y.result ≡ x = c.small-y.ensures ∙ ap (λ (b : Bool). cond b x c0_0) taken in
    let float : c.float.result ≡ whole (half_up_of (abs_of x)) = c.float.ensures ∙ ap whole (c.half_up.ensures ∙ ap half_up_of (c.abs.ensures ∙ ap abs_of own)) in
    c.signed-rounded.ensures ∙ ap (λ (v : Float). cond (negative v) (neg c.float.result) c.float.result) own
    ∙ ap (λ (v : Float). cond (negative x) (neg v) v) float ∙ with_sign x taken

pub returns-else-abs : goal.returns-else-abs
returns-else-abs c = large c.args.x (subst T (sym c.well_formed.0.1) tt) (subst (λ (v : Float). lt v c8388608_0 ≡ false) c.abs-2.ensures c.if-abs.false)
