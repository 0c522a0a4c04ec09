-- The ranges of bytes that are digits, and what lies outside them. Assumes nothing.
use Prim.Native.Nat.{ℕ, ◌-◌, ◌≤◌}
use native.Mathlib.Omega.{arith}
use mathlib.Core.Bool.{Bool, true, false, cond}
use mathlib.Core.Path.{◌≡◌, refl, sym, ◌∙◌}
use borrow.Author.Tests.{le-leb, leb-true, le-ltb}
use lib.Dec.{leb, ltb, lit≤}
use Rattle.inspect.specs.Hexadecimal.{within, digit_of}

pub inside : (low high c : ℕ) → low ≤ c → c ≤ high → within low high c ≡ true
inside low high c a b = rw (le-leb low c a, le-leb c high b)

pub outside : (low high c : ℕ) → (low ≤ c → c ≤ high → ⊥) → within low high c ≡ false
outside low high c n = by (leb low c) (leb c high) refl refl
  where
    by : (t u : Bool) → leb low c ≡ t → leb c high ≡ u → within low high c ≡ false
    by true true a b = absurd (n (leb-true low c a) (leb-true c high b))
    by true false a b = rw (a, b)
    by false u a b = rw a

-- a decimal digit, and what is none
pub figure : (c : ℕ) → 48 ≤ c → c ≤ 57 → digit_of c ≡ c - 48
figure c l m = rw (inside 48 57 c l m)

lowest : (low high c : ℕ) → within low high c ≡ true → low ≤ c
lowest low high c e = by (leb low c) refl e
  where
    by : (t : Bool) → leb low c ≡ t → within low high c ≡ true → low ≤ c
    by true a e = leb-true low c a
    by false a e = absurd (let z : true ≡ false = sym e ∙ rw a in cc)

pub no_figure : (c : ℕ) → (48 ≤ c → c ≤ 57 → ⊥) → ltb (digit_of c) 10 ≡ false
no_figure c n = rw (outside 48 57 c n) (by (within 65 70 c) (within 97 102 c) refl refl)
  where
    by : (s t : Bool) → within 65 70 c ≡ s → within 97 102 c ≡ t → ltb (cond s (c - 55) (cond t (c - 87) 16)) 10 ≡ false
    by true t e f = le-ltb (c - 55) 10 (omega (arith, lowest 65 70 c e))
    by false true e f = le-ltb (c - 87) 10 (omega (arith, lowest 97 102 c f))
    by false false e f = le-ltb 16 10 (lit≤ tt)
