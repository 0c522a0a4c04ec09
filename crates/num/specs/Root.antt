-- The square root of a binary32 value, by comparing squares of whole numbers. Definitions only.
use Rattle.std.specs.Prelude.{ℕ, zero, suc, ◌+◌, ◌-◌, ◌*◌, ◌/◌, ◌^◌, true, false, cond, leb, ltb, Float}
use Rattle.std.specs.Float.{nan, inf, fin, binary32}
use Rattle.std.specs.Float.Ieee.{up, down, size, units}
use Rattle.num.specs.Const.{c0_0}

-- q with k more binary digits below, each set where the square stays at most n
unfoldable pub root_digits : ℕ → ℕ → ℕ → ℕ
root_digits zero n q = q
root_digits (suc k) n q = let t = q + 2 ^ k in root_digits k n (cond (leb (t * t) n) t q)

-- the largest whole number whose square is at most n
unfoldable pub whole_root : ℕ → ℕ
unfolding root_digits
whole_root n = root_digits (size n) n 0

-- The binary32 nearest to a root whose square is n, the root counted in units of the format's smallest value, 2 ^ -149.
-- Of its whole part w the format keeps 24 digits, q, and drops k. So the value is q * 2 ^ k units or (q + 1) * 2 ^ k, the
-- second where h, which is the two together, is below twice the root. (h is never twice the root: the order in `RootIsNearest` is strict.)
unfoldable pub nearest_root : ℕ → Float
unfolding whole_root size units
nearest_root n =
    let w = whole_root n in
    let k = size w - 24 in
    let q = w / 2 ^ k in
    let h = (2 * q + 1) * 2 ^ k in
    units binary32 false (cond (ltb (h * h) (4 * n)) (q + 1) q) k

-- The root of x = m * 2 ^ e is the root of x * 2 ^ 298 in those units. A value that is negative (-0 too) or not finite gives 0.
unfoldable pub root_of : Float → Float
unfolding nearest_root
root_of nan = c0_0
root_of (inf s) = c0_0
root_of (fin true m e) = c0_0
root_of (fin false m e) = nearest_root (m * up e * 2 ^ 298 / down e)
