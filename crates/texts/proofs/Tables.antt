-- Tables by kind and by place: an arm of a `match`, and what is past the last. Assumes nothing.
use Prim.Native.Nat.{ℕ, zero, suc, ◌≤◌}
use mathlib.Core.List.{List, [], ◌∷◌}
use mathlib.Core.Path.{◌≡◌, refl, sym, ap, ◌∙◌}
use native.Mathlib.Nat.{not-suc-le-zero, le_of_suc-le-suc}
use native.Mathlib.Omega.{arith}
use lib.ListN.{length, get_or}

-- an arm: a table at a number is the table at the literal that it was found to be
pub arm : {A : Type 0} (table : ℕ → A) (k m : ℕ) {r : A} → k ≡ m → r ≡ table m → r ≡ table k
arm table k m e h = h ∙ ap table (sym e)

-- past the last
pub past : {A : Type 0} (xs : List A) (d : A) (k : ℕ) → length xs ≤ k → get_or xs k d ≡ d
past [] d k l = refl
past (x ∷ xs) d zero l = absurd (not-suc-le-zero l)
past (x ∷ xs) d (suc k) l = past xs d k (le_of_suc-le-suc l)

-- at 0, or past the last
pub outside : {A : Type 0} (d : A) (xs : List A) (k : ℕ) → (1 ≤ k → suc (length xs) ≤ k) → get_or (d ∷ xs) k d ≡ d
outside d xs zero h = refl
outside d xs (suc k) h = past xs d k (le_of_suc-le-suc (h (omega arith)))

-- a number that is none of those before it
pub up : {n k : ℕ} → n ≤ k → (k ≡ n → ⊥) → suc n ≤ k
up {n} {k} l h = omega (arith, h)
