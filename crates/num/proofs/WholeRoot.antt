-- The laws of `whole_root`: its square is at most n, the square of one more is above n, and no other number has both. Assumes nothing.
use mathlib.Core.Path.{◌≡◌, sym, subst}
use Prim.Native.Nat.{ℕ, zero, suc, ◌+◌, ◌*◌, ◌^◌, ◌≤◌, ◌<◌, zero-le}
use native.Mathlib.Nat.{le_antisymm, le_of_suc-le-suc, lt_of_lt_of_le, lt_of_le_of_lt, lt_of_not-le, not-le_of_lt, le-mul_of_pos_right, mul-le-mul, zero-add}
use native.Mathlib.Nat.{two-pow-succ}
use native.Mathlib.Numerals.{add-one}
use native.Mathlib.Omega.{arith}
use mathlib.Core.Bool.{Bool, true, false, not, cond}
use lib.Dec.{T, leb, leb→le, nleb→lt}
use lib.Pow.{pow_pos}
use lib.Ieee.{size}
use lib.Ieee.Digits.{size-lt}
use Rattle.num.specs.Root.{root_digits, whole_root}

abbrev pub IsRoot : ℕ → ℕ → Type 0
IsRoot n q = (q * q ≤ n) × (n < (q + 1) * (q + 1))

two_places : (q k : ℕ) → q + 2 ^ suc k ≡ q + 2 ^ k + 2 ^ k
two_places q k = omega (arith, two-pow-succ k)

digits : (k n q : ℕ) → q * q ≤ n → n < (q + 2 ^ k) * (q + 2 ^ k) → IsRoot n (root_digits k n q)
unfolding root_digits
digits zero n q l u = (l, u)
digits (suc k) n q l u =
    let t = q + 2 ^ k in
    go (leb (t * t) n)
    (λ h. digits k n t (leb→le (t * t) n h) (subst (λ (x : ℕ). n < x * x) (two_places q k) u))
    (λ h. digits k n q l (nleb→lt (t * t) n h))
  where
    go : (b : Bool) → (T b → IsRoot n (root_digits k n (q + 2 ^ k))) → (T (not b) → IsRoot n (root_digits k n q))
        → IsRoot n (root_digits k n (cond b (q + 2 ^ k) q))
    go true y f = y tt
    go false y f = f tt

pub whole_is : (n : ℕ) → IsRoot n (whole_root n)
unfolding whole_root
whole_is n =
    digits (size n) n 0 zero-le
    (subst (λ (x : ℕ). n < x * x) (sym (zero-add (2 ^ size n))) (lt_of_lt_of_le (size-lt n) (le-mul_of_pos_right (2 ^ size n) (pow_pos (size n)))))

-- an order of squares is one of the numbers
pub root_lt : {a b : ℕ} → a * a < b * b → a < b
root_lt {a} {b} h = lt_of_not-le (λ (g : b ≤ a). not-le_of_lt h (mul-le-mul g g))

pub le-whole : (n a : ℕ) → a * a ≤ n → a ≤ whole_root n
le-whole n a h = le_of_suc-le-suc (subst (λ (x : ℕ). a < x) (add-one (whole_root n)) (root_lt (lt_of_le_of_lt h (whole_is n).1)))

pub whole-lt : (n a : ℕ) → n < a * a → whole_root n < a
whole-lt n a h = root_lt (lt_of_le_of_lt (whole_is n).0 h)

pub whole_unique : (n q : ℕ) → IsRoot n q → q ≡ whole_root n
whole_unique n q h =
    le_antisymm (le-whole n q h.0) (le_of_suc-le-suc (subst (λ (x : ℕ). whole_root n < x) (add-one q) (whole-lt n (q + 1) h.1)))
