-- A number is read as its decimal value up to 9999, and one above as some number above. Assumes nothing.
use Prim.Native.Nat.{ℕ, ◌+◌, ◌-◌, ◌*◌, ◌≤◌, ◌<◌}
use mathlib.Core.Path.{◌≡◌, refl}
use mathlib.Core.Bool.{Bool, true, false, cond}
use mathlib.Core.List.{List, [], ◌∷◌}
use native.Mathlib.Omega.{arith}
use borrow.Author.Tests.{ltb-true, ltb-false}
use lib.Dec.{ltb}
use Rattle.raster.specs.Ppm.{is_digit, grow, value_of}
use Rattle.raster.specs.Claims.{decimal_of, ReadDecimal}

-- the value that is kept, beside the one that is meant
data Kept : ℕ → ℕ → Type 0 where
  same : {v : ℕ} → Kept v v
  above : {v u : ℕ} → 9999 < v → 9999 < u → Kept v u

grown : (v u d : ℕ) → Kept v u → Kept (grow v d) (u * 10 + d)
grown v u d k = go (ltb 9999 v) refl k
  where
    go : {u : ℕ} (b : Bool) → ltb 9999 v ≡ b → Kept v u → Kept (cond b v (v * 10 + d)) (u * 10 + d)
    go {u} true e same = above {u = v * 10 + d} (ltb-true 9999 v e) (omega (arith, ltb-true 9999 v e))
    go {u} true e (above l m) = above {u = u * 10 + d} l (omega arith)
    go {u} false e same = same
    go {u} false e (above l m) = absurd (omega (arith, ltb-false 9999 v e))

digit : (t : Bool) {v u w x : ℕ} → Kept v u → Kept w x → Kept (cond t v w) (cond t u x)
digit true k n = k
digit false k n = n

kept : (bytes : List ℕ) (v u : ℕ) → Kept v u → Kept (value_of v bytes) (decimal_of u bytes)
unfolding value_of decimal_of
kept [] v u k = k
kept (b ∷ bytes) v u k = digit (is_digit b) (kept bytes (grow v (b - 48)) (u * 10 + (b - 48)) (grown v u (b - 48) k)) k

told : {v u : ℕ} → Kept v u → (u ≤ 9999 → v ≡ u) × (9999 < u → 9999 < v)
told same = (λ l. refl, λ l. l)
told (above l m) = (λ few. absurd (omega arith), λ many. l)

pub read-decimal : ReadDecimal
read-decimal bytes = told (kept bytes 0 0 same)
