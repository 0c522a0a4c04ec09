-- Lists of bytes: the test of equality, place by place. Assumes nothing.
use Prim.Native.Nat.{ℕ, suc, ◌+◌, ◌<◌, ◌≤◌}
use native.Mathlib.Omega.{arith}
use mathlib.Core.Path.{◌≡◌, refl, ap, ap₂, sym, ◌∙◌}
use mathlib.Core.Bool.{true, false, ◌&&◌}
use mathlib.Core.List.{List, [], ◌∷◌}
use borrow.Author.Tests.{eqb-true, eq-eqb, ne_eqb}
use lib.Dec.{eqb}
use lib.ListN.{length, get_or, drop, drop_of_length-le}
use lib.Seq.{drop-cons}
use Rattle.num.specs.Laws.Bools.{both, false_true}
use Rattle.bridge.specs.State.{same_bytes}

-- the first i bytes are the same: the others decide
pub record SameTo (i : ℕ) (xs ys : List ℕ) : Type 0 where
  pub rest : same_bytes xs ys ≡ same_bytes (drop i xs) (drop i ys)

pub same_none : (xs ys : List ℕ) → SameTo 0 xs ys
same_none xs ys = record { rest = refl }

module _ (xs ys : List ℕ) (i : ℕ) (x-in : i < length xs) (y-in : i < length ys) where
  heads : same_bytes (drop i xs) (drop i ys) ≡ (eqb (get_or xs i 0) (get_or ys i 0) && same_bytes (drop (suc i) xs) (drop (suc i) ys))
  heads = ap₂ same_bytes (drop-cons xs i 0 x-in) (drop-cons ys i 0 y-in)

  pub same_more : get_or xs i 0 ≡ get_or ys i 0 → SameTo i xs ys → SameTo (i + 1) xs ys
  same_more e t =
      let k : suc i ≡ i + 1 = omega arith in
      record {
        rest =
            t.rest ∙ heads ∙ rw (eq-eqb (get_or xs i 0) (get_or ys i 0) e) (ap (λ (j : ℕ). same_bytes (drop j xs) (drop j ys)) k);
      }

  pub same_not : (get_or xs i 0 ≡ get_or ys i 0 → ⊥) → SameTo i xs ys → false ≡ same_bytes xs ys
  same_not e t = sym (t.rest ∙ heads ∙ rw (ne_eqb (get_or xs i 0) (get_or ys i 0) e))

pub same_all : (xs ys : List ℕ) (i : ℕ) → length xs ≤ i → length ys ≤ i → SameTo i xs ys → true ≡ same_bytes xs ys
same_all xs ys i x-out y-out t = sym (t.rest ∙ ap₂ same_bytes (drop_of_length-le xs x-out) (drop_of_length-le ys y-out))

pub same_itself : (xs : List ℕ) → same_bytes xs xs ≡ true
same_itself [] = refl
same_itself (x ∷ xs) = rw (eq-eqb x x refl, same_itself xs)

pub same_equal : (xs ys : List ℕ) → same_bytes xs ys ≡ true → xs ≡ ys
same_equal [] [] e = refl
same_equal [] (y ∷ ys) e = false_true e
same_equal (x ∷ xs) [] e = false_true e
same_equal (x ∷ xs) (y ∷ ys) e =
    let d = both (eqb x y) (same_bytes xs ys) e in
    ap₂ (λ (z : ℕ) (zs : List ℕ). z ∷ zs) (eqb-true x y d.0) (same_equal xs ys d.1)
