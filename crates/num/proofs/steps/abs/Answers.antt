-- `num::steps::abs` meets its contract, by cases on x: below zero the sign goes, a zero of either sign is +0, and any other x has no sign. Assumes nothing.
use mathlib.Core.Path.{◌≡◌, refl, sym, ◌∙◌, subst}
use Prim.Native.Nat.{ℕ, zero, suc, ◌+◌, ◌*◌, ◌≤◌, ◌<◌}
use native.Mathlib.Nat.{zero-mul}
use native.Mathlib.Omega.{arith}
use mathlib.Core.Bool.{Bool, true, false, ◌&&◌, ◌||◌, cond, true≢false}
use borrow.Author.Tests.{ltb-true, ltb-false, eqb-true, eq-eqb}
use lib.IntN.{ℤ, pos}
use lib.Dec.{T, eqb}
use lib.Ieee.{Float, nan, inf, fin, binary32, up, down, neg, lt, eq, fits, of_bits}
use lib.Ieee.Back.{whole_unique}
use Rattle.num.specs.Laws.Bools.{both}
use Rattle.num.specs.Const.{c0_0}
use Rattle.num.specs.Steps.{plus_zero_of, abs_of}
use Rattle.num.proofs.steps.abs.Goals as goal
use Rattle.num.proofs.steps.abs.Lts as lts
use Rattle.num.proofs.steps.abs.Reads as reads
use Rattle.num.proofs.steps.abs.Tie as tie

not-lt-zero : (a : ℕ) → a < 0 → ⊥
not-lt-zero a h = omega arith

none_below : (a d : ℕ) → a < 0 * d → ⊥
none_below a d h = not-lt-zero a (subst (λ (x : ℕ). a < x) (zero-mul d) h)

below-zero : (x : Float) → lt x c0_0 ≡ true → neg x ≡ abs_of x
unfolding lt neg abs_of of_bits
below-zero nan h = absurd (true≢false (sym h))
below-zero (inf true) h = refl
below-zero (inf false) h = absurd (true≢false (sym h))
below-zero (fin true m e) h = refl
below-zero (fin false m e) h = absurd (none_below (m * up e * 1) (down e) (ltb-true (m * up e * 1) (0 * down e) h))

unsigned_fits : (s : Bool) (m : ℕ) (e : ℤ) → T (fits binary32 (fin s m e)) → T (fits binary32 (fin false m e))
unfolding fits
unsigned_fits s zero e h = h
unsigned_fits s (suc m) e h = h

zero_fits : T (fits binary32 (fin false 0 (pos 0)))
unfolding fits
zero_fits = tt

at_zero : (x : Float) → T (fits binary32 x) → eq x c0_0 ≡ true → c0_0 ≡ abs_of x
unfolding eq abs_of of_bits
at_zero nan f h = absurd (true≢false (sym h))
at_zero (inf s) f h = absurd (true≢false (sym h))
at_zero (fin s m e) f h =
    whole_unique binary32 (fin false 0 (pos 0)) (fin false m e) false 0 zero_fits (unsigned_fits s m e f) (refl, refl)
    (refl, eqb-true (m * up e * 1) (0 * down e) (both (eqb (m * up e * 1) (0 * down e)) _ h).0)

nothing : (a b : ℕ) → a + b ≤ 0 → (a ≡ b) × (a ≡ 0)
nothing a b h = (omega arith, omega arith)

clash : (p q : Bool) → p ≡ true → q ≡ true → (p && (false || q)) ≡ false → ⊥
clash true true a b h = true≢false h
clash true false a b h = true≢false (sym b)
clash false q a b h = true≢false (sym a)

above_zero : (x : Float) → lt x c0_0 ≡ false → eq x c0_0 ≡ false → x ≡ abs_of x
unfolding lt eq abs_of of_bits
above_zero nan h k = refl
above_zero (inf true) h k = absurd (true≢false h)
above_zero (inf false) h k = refl
above_zero (fin false m e) h k = refl
above_zero (fin true m e) h k =
    let a = m * up e * 1 in
    let b = 0 * down e in
    let z = nothing a b (ltb-false 0 (a + b) h) in
    absurd (clash (eqb a b) (eqb a 0) (eq-eqb a b z.0) (eq-eqb a 0 z.1) k)

held : (c : lts.Start tie.the-claims reads.Pre reads.Post) → T (fits binary32 c.args.x)
held c = subst T (sym c.well_formed.0.1) tt

not-below : (x : Float) → T (fits binary32 x) → lt x c0_0 ≡ false → plus_zero_of x ≡ abs_of x
unfolding plus_zero_of
not-below x f h = go (eq x c0_0) refl
  where
    go : (b : Bool) → eq x c0_0 ≡ b → cond b c0_0 x ≡ abs_of x
    go true k = at_zero x f k
    go false k = above_zero x h k

pub returns-then-x : goal.returns-then-x
returns-then-x c = below-zero c.args.x c.if-x.true

pub returns-else-x : goal.returns-else-x
returns-else-x c = c.plus_zero.ensures ∙ not-below c.args.x (held c.before.before) c.if-x.false
