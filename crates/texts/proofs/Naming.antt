-- Names looked for one after another. Assumes nothing.
use Prim.Native.Nat.{ℕ, suc, ◌+◌, ◌<◌}
use mathlib.Core.Bool.{Bool, true, false, cond}
use mathlib.Core.List.{List, [], ◌∷◌}
use mathlib.Core.Path.{◌≡◌, refl, sym, ap, ap₂, ◌∙◌}
use native.Mathlib.Nat.{le_refl}
use native.Mathlib.Omega.{arith}
use borrow.Author.Tests.{lt-ltb, le-ltb}
use lib.ListN.{length, get_or}
use Rattle.std.specs.Prelude.{Option, Some, None, option_map}
use Rattle.std.specs.List.{find, range_with_len}
use Rattle.texts.specs.Names.{Name, found, below}
use Rattle.texts.specs.Words.{is}

-- a number found is one of those that were looked at
kept : (o : Option ℕ) → o ≡ option_map (λ x. x) o
kept (Some x) = refl
kept None = refl

step : (b : Bool) (k m n : ℕ) (o : Option ℕ) → k < m → o ≡ below m n → cond b (Some k) o ≡ below m (cond b k n)
step true k m n o l e = rw (lt-ltb k m l) refl
step false k m n o l e = e

-- the names from place k on
look : (name : ℕ → Name) (word : List ℕ) (names : List Name) (k : ℕ) → ((j : ℕ) → j < length names → name (k + j) ≡ get_or names j [])
    → find (λ i. is word (name i)) (range_with_len k (length names)) ≡ below (k + length names) (found names word k)
unfolding found
look name word [] k e = let none : k + 0 ≡ k = omega arith in sym (rw (none, le-ltb k k (le_refl k)) refl)
look name word (n ∷ names) k e =
    let here : name k ≡ n = ap name (omega arith) ∙ e 0 (omega arith) in
    let next : (j : ℕ) → j < length names → name (k + 1 + j) ≡ get_or names j [] = λ j l. ap name (omega arith) ∙ e (suc j) (omega (arith, l)) in
    let rest = find (λ i. is word (name i)) (range_with_len (k + 1) (length names)) in
    let last : rest ≡ below (k + suc (length names)) (found names word (suc k)) =
    look name word names (k + 1) next ∙ ap₂ (λ (m i : ℕ). below m (found names word i)) (omega arith) (omega arith) in
    ap (λ (w : Name). cond (is word w) (Some k) rest) here ∙ step (is word n) k _ _ rest (omega arith) last

pub looked : (name : ℕ → Name) (word : List ℕ) (names : List Name) (o : Option ℕ) → ((j : ℕ) → j < length names → name j ≡ get_or names j [])
    → option_map (λ x. x) o ≡ find (λ i. is word (name i)) (range_with_len 0 (length names)) → o ≡ below (length names) (found names word 0)
looked name word names o e f = kept o ∙ f ∙ look name word names 0 (λ j l. ap name (omega arith) ∙ e j l) ∙ ap (λ (m : ℕ). below m (found names word 0)) (omega arith)
