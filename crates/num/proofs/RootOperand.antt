-- The root of a value by its units, at which patterns and values the root is 0, and the operand that `root::root` works on. Assumes nothing.
use mathlib.Core.Path.{◌≡◌, refl, sym, ap, ◌∙◌}
use mathlib.Core.Logic.{inl, inr}
use Prim.Native.Nat.{ℕ, ◌*◌, ◌/◌, ◌^◌, ◌≤◌, ◌<◌}
use native.Mathlib.Nat.{eq-zero-or-pos, zero-mul, mul_assoc, mul_right_comm, mul-div_cancel, div-eq_of_lt}
use native.Mathlib.Omega.{arith}
use mathlib.Core.Bool.{Bool, true, false, cond, true≢false}
use borrow.Author.Tests.{ltb-false}
use lib.IntN.{ℤ}
use lib.Dec.{T, ltb}
use lib.Ieee.{Float, nan, inf, fin, binary32, up, down, of_bits, to_bits, fits, lt}
use lib.Ieee.Fits.{down_pos, cond-fits}
use lib.Ieee.Bits.{of_bits-to_bits, of_bits-fits}
use lib.Ieee.Exact.{HasValue}
use Rattle.num.specs.Laws.Order.{one-above}
use Rattle.num.specs.Const.{c0_0, c1_0}
use Rattle.num.specs.Root.{nearest_root, root_of}
use Rattle.num.specs.Private.{operand}
use Rattle.num.proofs.Patterns.{plain, beyond}

-- the root of N units
pub root_of_units : (x : Float) (N : ℕ) → HasValue x false N (2 ^ 149) → root_of x ≡ nearest_root (N * 2 ^ 149)
unfolding root_of
root_of_units nan N h = absurd h
root_of_units (inf s) N h = absurd h
root_of_units (fin true m e) N h = absurd (true≢false h.0)
root_of_units (fin false m e) N h =
    ap (λ (y : ℕ). nearest_root (y / down e)) (sym (mul_assoc (m * up e) (2 ^ 149) (2 ^ 149)) ∙ ap (λ (y : ℕ). y * 2 ^ 149) h.1 ∙ mul_right_comm N (down e) (2 ^ 149))
    ∙ ap nearest_root (mul-div_cancel (N * 2 ^ 149) (down_pos e))

-- ---- where the root is 0

root_not-plain : (x : Float) → plain x ≡ false → root_of x ≡ c0_0
unfolding root_of
root_not-plain nan h = refl
root_not-plain (inf s) h = refl
root_not-plain (fin true m e) h = refl
root_not-plain (fin false m e) h = absurd (true≢false h)

pub root_beyond : (b : ℕ) → 0x7f80_0000 ≤ b → root_of (of_bits binary32 b) ≡ c0_0
root_beyond b h = root_not-plain (of_bits binary32 b) (beyond b h)

none_left : (e : ℤ) (a : ℕ) → ltb (0 * down e) (a * 1) ≡ false → a ≡ 0
none_left e a h = let l = ltb-false (0 * down e) (a * 1) h in omega (arith, zero-mul (down e))

root_none : nearest_root 0 ≡ c0_0
unfolding nearest_root of_bits
root_none = refl

pub root_not-above : (x : Float) → lt c0_0 x ≡ false → root_of x ≡ c0_0
unfolding root_of lt of_bits
root_not-above nan h = refl
root_not-above (inf s) h = refl
root_not-above (fin true m e) h = refl
root_not-above (fin false m e) h =
    ap (λ (y : ℕ). nearest_root (y * 2 ^ 298 / down e)) (none_left e (m * up e) h) ∙ ap nearest_root (div-eq_of_lt (down_pos e)) ∙ root_none

-- ---- what is above 0

never_above : lt c0_0 c0_0 ≡ false
unfolding lt of_bits
never_above = refl

pub pattern-above : (x : Float) → T (fits binary32 x) → lt c0_0 x ≡ true → 0 < to_bits binary32 x
pattern-above x f h =
    elim (eq-zero-or-pos (to_bits binary32 x)) [
      | inl z ↦ absurd (true≢false (sym h ∙ ap (lt c0_0) (sym (of_bits-to_bits binary32 x f) ∙ ap (of_bits binary32) z) ∙ never_above))
      | inr p ↦ p
    ]

-- ---- the operand that the code puts in the place of x

pub operand_above : (x : Float) → lt c0_0 (operand x) ≡ true
operand_above x = go (lt c0_0 x) refl
  where
    go : (b : Bool) → lt c0_0 x ≡ b → lt c0_0 (cond b x c1_0) ≡ true
    go true e = e
    go false e = one-above

pub operand_fits : (x : Float) → T (fits binary32 x) → T (fits binary32 (operand x))
operand_fits x h = cond-fits binary32 (lt c0_0 x) x c1_0 h (of_bits-fits binary32 0x3f80_0000)

pub operand-is : (x : Float) → lt c0_0 x ≡ true → operand x ≡ x
operand-is x e = ap (λ (b : Bool). cond b x c1_0) e
