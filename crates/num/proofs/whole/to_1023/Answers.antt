-- `num::whole::to_1023` meets its contract, by cases on x. Assumes nothing.
use mathlib.Core.Path.{◌≡◌, refl, sym, ap, ◌∙◌, subst}
use Prim.Native.Nat.{ℕ, ◌*◌, ◌/◌, ◌≤◌, ◌<◌}
use native.Mathlib.Nat.{zero-mul, mul-one, zero-div}
use native.Mathlib.Omega.{arith}
use mathlib.Core.Bool.{Bool, true, false, ◌&&◌, ◌||◌, cond, true≢false}
use borrow.Author.Tests.{ltb-false, le-leb, lt-leb}
use lib.Dec.{T, leb, ltb, eqb, lt→ltb}
use lib.Ieee.{Float, nan, inf, fin, up, down, lt, le, of_bits}
use lib.Ieee.Fits.{down_pos}
use Rattle.num.specs.Const.{c0_0, c1023_0}
use Rattle.num.specs.Steps.{cut_of}
use Rattle.num.specs.Private.{under, floor_of}
use Rattle.num.specs.Laws.Order.{tests_le, tests_lt}
use Rattle.num.proofs.whole.to_1023.Goals as goal

-- ---- from above 0 to 1023
at_most : (a c : ℕ) → T (ltb (a * 1) (1023 * c) || (eqb (a * 1) (1023 * c) && true)) → a ≤ 1023 * c
at_most a c h = omega (arith, tests_le (a * 1) (1023 * c) true h)

inside : (x : Float) → lt c0_0 x ≡ true → le x c1023_0 ≡ true → T (under 1024 x) × (floor_of x ≡ cut_of x)
unfolding lt le under floor_of cut_of of_bits
inside nan h k = absurd (true≢false (sym h))
inside (inf true) h k = absurd (true≢false (sym h))
inside (inf false) h k = absurd (true≢false (sym k))
inside (fin true m e) h k = absurd (true≢false (sym h))
inside (fin false m e) h k =
    let l : m * up e ≤ 1023 * down e = at_most (m * up e) (down e) (subst T (sym k) tt) in
    (lt→ltb (m * up e) (1024 * down e) (omega (arith, down_pos e)), sym (ap (λ (b : Bool). cond b (m * up e / down e) 0) (le-leb (m * up e) (1023 * down e) l)))

-- ---- any other x is cut to 0, and so is the 0 in its place
over : (x : Float) → le x c1023_0 ≡ false → cut_of x ≡ 0
unfolding le cut_of of_bits
over nan k = refl
over (inf s) k = refl
over (fin true m e) k = refl
over (fin false m e) k =
    ap (λ (b : Bool). cond b (m * up e / down e) 0) (lt-leb (m * up e) (1023 * down e) (subst (λ (a : ℕ). 1023 * down e < a) (mul-one (m * up e)) (tests_lt (m * up e * 1) (1023 * down e) k)))

not-above : (x : Float) → lt c0_0 x ≡ false → cut_of x ≡ 0
unfolding lt cut_of of_bits
not-above nan k = refl
not-above (inf s) k = refl
not-above (fin true m e) k = refl
not-above (fin false m e) k = go (leb (m * up e) (1023 * down e))
  where
    none : m * up e ≡ 0
    none = let l = ltb-false (0 * down e) (m * up e * 1) k in omega (arith, zero-mul (down e))

    go : (b : Bool) → cond b (m * up e / down e) 0 ≡ 0
    go true = ap (λ (a : ℕ). a / down e) none ∙ zero-div (down e)
    go false = refl

zero_for : (x : Float) → cut_of x ≡ 0 → T (under 1024 c0_0) × (floor_of c0_0 ≡ cut_of x)
unfolding under floor_of of_bits
zero_for x h = (tt, sym h)

pub returns-then-x-2 : goal.returns-then-x-2
returns-then-x-2 c = inside c.args.x c.if-x.true c.if-x-2.true

pub returns-else-x-2 : goal.returns-else-x-2
returns-else-x-2 c = zero_for c.args.x (over c.args.x c.if-x-2.false)

pub returns-else-x : goal.returns-else-x
returns-else-x c = zero_for c.args.x (not-above c.args.x c.if-x.false)
