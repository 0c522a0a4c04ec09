-- The front of a list: what stands before the first byte that is not such. Assumes nothing.
use Prim.Native.Nat.{ℕ, suc, ◌+◌, ◌-◌, ◌≤◌, ◌<◌}
use mathlib.Core.Bool.{Bool, true, false, not, cond}
use mathlib.Core.List.{List, [], ◌∷◌}
use mathlib.Core.Path.{◌≡◌, refl, sym, ap, ◌∙◌}
use native.Mathlib.Numerals.{add-one, one-add}
use native.Mathlib.Omega.{arith}
use borrow.Author.Tests.{ltb-false}
use lib.ListN.{length, get_or, take, drop, length-drop}
use lib.Dec.{ltb}
use lib.Seq.{drop-cons, take_all}
use Rattle.std.specs.Prelude.{Option, Some, None, unwrap_or}
use Rattle.std.specs.List.{position_or_len}
use Rattle.texts.specs.Words.{front}

pub at_front : (bytes : List ℕ) (i : ℕ) → i < length bytes → drop i bytes ≡ get_or bytes i 0 ∷ drop (i + 1) bytes
at_front bytes i l = drop-cons bytes i 0 l ∙ ap (λ (k : ℕ). get_or bytes i 0 ∷ drop k bytes) (sym (add-one i))

front-le : (such : ℕ → Bool) (bytes : List ℕ) → front such bytes ≤ length bytes
unfolding front
front-le such [] = omega arith
front-le such (b ∷ bytes) = go (such b) (front-le such bytes)
  where
    go : (t : Bool) → front such bytes ≤ length bytes → cond t (suc (front such bytes)) 0 ≤ suc (length bytes)
    go true l = omega arith
    go false l = omega arith

-- the front ends at the first byte that is not such
stopped : (such stops : ℕ → Bool) → ((b : ℕ) → such b ≡ not (stops b)) → (bytes : List ℕ) → position_or_len stops bytes ≡ front such bytes
unfolding front
stopped such stops e [] = refl
stopped such stops e (b ∷ bytes) =
    ap (λ (t : Bool). cond t (1 + position_or_len stops bytes) 0) (sym (e b)) ∙ ap (λ (n : ℕ). cond (such b) n 0) (one-add (position_or_len stops bytes) ∙ ap suc (stopped such stops e bytes))

module _ (such stops : ℕ → Bool) (e : (b : ℕ) → such b ≡ not (stops b)) (bytes : List ℕ) where
  abbrev first : Option ℕ
  first = cond (ltb (position_or_len stops bytes) (length bytes)) (Some (position_or_len stops bytes)) None

  -- the place of the first byte that is not such, or the length
  pub ends : {r : Option ℕ} {n : ℕ} → r ≡ first → n ≡ unwrap_or r (length bytes) → (n ≡ front such bytes) × (n ≤ length bytes)
  ends {r} {n} f g =
      let all : n ≡ front such bytes = g ∙ ap (λ (o : Option ℕ). unwrap_or o (length bytes)) f ∙ go (ltb (position_or_len stops bytes) (length bytes)) refl in
      (all, omega (arith, all, front-le such bytes))
    where
      go : (t : Bool) → ltb (position_or_len stops bytes) (length bytes) ≡ t → unwrap_or (cond t (Some (position_or_len stops bytes)) None) (length bytes) ≡ front such bytes
      go true l = stopped such stops e bytes
      go false l = omega (arith, ltb-false (position_or_len stops bytes) (length bytes) l, stopped such stops e bytes, front-le such bytes)

-- the same of the bytes from a place on
pub ends_from : (such stops : ℕ → Bool) → ((b : ℕ) → such b ≡ not (stops b)) → (bytes : List ℕ) (from : ℕ) {r : Option ℕ} {n : ℕ} → from ≤ length bytes
    → let rest = take (length bytes - from) (drop from bytes) in r ≡ cond (ltb (position_or_len stops rest) (length rest)) (Some (position_or_len stops rest)) None
    → n ≡ unwrap_or r (length rest) → (from + n ≡ from + front such (drop from bytes)) × (from + n ≤ length bytes)
ends_from such stops e bytes from {r} {n} l f g =
    let rest = take (length bytes - from) (drop from bytes) in
    let whole : rest ≡ drop from bytes = take_all (length bytes - from) (drop from bytes) (omega (arith, length-drop from bytes)) in
    let found = ends such stops e rest f g in
    let long : length rest ≡ length bytes - from = ap length whole ∙ length-drop from bytes in
    (ap (λ (k : ℕ). from + k) (found.0 ∙ ap (front such) whole), omega (arith, found.1, long))
