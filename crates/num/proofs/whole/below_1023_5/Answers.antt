-- `num::whole::below_1023_5` meets its contract, by cases on x. Assumes nothing.
use mathlib.Core.Path.{◌≡◌, refl, sym, ◌∙◌, subst}
use Prim.Native.Nat.{ℕ, ◌+◌, ◌*◌, ◌/◌, ◌≤◌, ◌<◌}
use native.Mathlib.Nat.{zero-mul, mul-one, mul-pos, le-div_iff_mul-le, div-eq_of_lt}
use native.Mathlib.Omega.{arith}
use mathlib.Core.Bool.{true, false, true≢false}
use borrow.Author.Tests.{ltb-true, ltb-false}
use lib.Dec.{T, lt→ltb, lit<}
use lib.Ieee.{Float, nan, inf, fin, binary32, up, down, round, lt, of_bits}
use lib.Ieee.Fits.{down_pos}
use lib.Ieee.Order.{round_mono}
use Rattle.num.specs.Const.{c0_0, c1023_5}
use Rattle.num.specs.Steps.{cut_of, round_of}
use Rattle.num.specs.Private.{under, half_up_of}
use Rattle.num.specs.Laws.Within.{round_signed}
use Rattle.num.specs.Laws.Bounds.{cut-round, cut-negative, cut_large}
use Rattle.num.proofs.whole.below_1023_5.Goals as goal

-- ---- from above 0 to below 1023.5
inside : (x : Float) → lt c0_0 x ≡ true → lt x c1023_5 ≡ true → T (under 1024 x) × (half_up_of x ≡ cut_of (round_of x))
unfolding lt under half_up_of of_bits
inside nan h k = absurd (true≢false (sym h))
inside (inf true) h k = absurd (true≢false (sym h))
inside (inf false) h k = absurd (true≢false (sym k))
inside (fin true m e) h k = absurd (true≢false (sym h))
inside (fin false m e) h k =
    let l : m * up e * 2 < 2047 * down e = ltb-true (m * up e * 2) (2047 * down e) k in
    (lt→ltb (m * up e) (1024 * down e) (omega arith), sym (cut-round m e l))

-- ---- any other x is rounded and cut to 0, and so is the 0 in its place
below-zero : (m n : ℕ) → cut_of (round binary32 true m n) ≡ 0
below-zero m n = sym (cut-negative (round binary32 true m n) (round_signed binary32 true m n))

over : (x : Float) → lt x c1023_5 ≡ false → cut_of (round_of x) ≡ 0
unfolding lt round_of cut_of of_bits
over nan k = refl
over (inf s) k = refl
over (fin true m e) k = below-zero ((2 * (m * up e) + down e) / (2 * down e)) 1
over (fin false m e) k =
    let n = (2 * (m * up e) + down e) / (2 * down e) in
    let l : 2047 * down e ≤ m * up e * 2 = ltb-false (m * up e * 2) (2047 * down e) k in
    let more : 1024 * (2 * down e) ≤ 2 * (m * up e) + down e = omega arith in
    sym (cut_large (round binary32 false n 1)
    (round_mono binary32 1024 1 n 1 (lit< tt) (lit< tt) (subst (λ (x : ℕ). 1024 ≤ x) (sym (mul-one n)) ((le-div_iff_mul-le (mul-pos (lit< tt) (down_pos e))).1 more))))

not-above : (x : Float) → lt c0_0 x ≡ false → cut_of (round_of x) ≡ 0
unfolding lt round_of cut_of of_bits
not-above nan k = refl
not-above (inf s) k = refl
not-above (fin true m e) k = below-zero ((2 * (m * up e) + down e) / (2 * down e)) 1
not-above (fin false m e) k =
    let l = ltb-false (0 * down e) (m * up e * 1) k in
    let p = down_pos e in
    let none : m * up e ≡ 0 = omega (arith, zero-mul (down e)) in
    cut-round m e (omega arith) ∙ div-eq_of_lt (omega arith)

zero_for : (x : Float) → cut_of (round_of x) ≡ 0 → T (under 1024 c0_0) × (half_up_of c0_0 ≡ cut_of (round_of x))
unfolding under half_up_of of_bits
zero_for x h = (tt, sym h)

pub returns-then-x-2 : goal.returns-then-x-2
returns-then-x-2 c = inside c.args.x c.if-x.true c.if-x-2.true

pub returns-else-x-2 : goal.returns-else-x-2
returns-else-x-2 c = zero_for c.args.x (over c.args.x c.if-x-2.false)

pub returns-else-x : goal.returns-else-x
returns-else-x c = zero_for c.args.x (not-above c.args.x c.if-x.false)
