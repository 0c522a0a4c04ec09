-- Laws of the sheet: its bits by index, and one lay after another. Assumes nothing.
use Prim.Native.Nat.{ℕ, suc, ◌+◌, ◌-◌, ◌/◌, ◌%◌, ◌^◌, ◌≤◌, ◌<◌}
use native.Mathlib.Omega.{arith}
use native.Mathlib.Decide.{dec_le, dec_lt}
use mathlib.Core.Path.{◌≡◌, ap, ap₂, sym, subst, ◌∙◌}
use mathlib.Core.List.{List, [], ◌∷◌, ◌++◌, append_assoc, append-nil}
use lib.ListN.{length, take, drop, get_or, length-append, get_or-append, drop_of_length-le}
use lib.Seq.{paste, take_all, take-length, get_or_at, take_at, drop_at, drop-drop, length-take-le}
use lib.Pow.{shr-shr}
use Rattle.cards.specs.Written.{bits}
use Rattle.cards.specs.Sheet.{lay}
use Rattle.cards.specs.declared.writer.Sheet.{Sheet}
use Rattle.cards.proofs.Packed.{length-bits}

-- bit i of k
pub bits_at : (k v i : ℕ) → i < k → get_or (bits k v) i 0 ≡ v / 2 ^ (k - 1 - i) % 2
unfolding bits
bits_at Prim.Native.Nat.zero v i l = elim l [ ]
bits_at (suc k) v i l = go (λ m. bits_at k (v / 2) i m) (dec_lt i k)
  where
    go : (i < k → get_or (bits k (v / 2)) i 0 ≡ v / 2 / 2 ^ (k - 1 - i) % 2) → Dec (i < k) → get_or (bits k (v / 2) ++ v % 2 ∷ []) i 0 ≡ v / 2 ^ (suc k - 1 - i) % 2
    go ih (yes m) =
        let e : 1 + (k - 1 - i) ≡ suc k - 1 - i = omega arith in
        get_or-append (bits k (v / 2)) (v % 2 ∷ []) 0 i (omega (arith, length-bits k (v / 2)))
        ∙ ih m
        ∙ ap (λ (x : ℕ). x % 2) (shr-shr v 1 (k - 1 - i))
        ∙ ap (λ (x : ℕ). v / 2 ^ x % 2) e
    go ih (no m) =
        let e : suc k - 1 - i ≡ 0 = omega arith in
        get_or_at (bits k (v / 2)) (v % 2) [] 0 i (length-bits k (v / 2) ∙ omega arith) ∙ rw e (omega arith)

abbrev sheet : List ℕ → ℕ → Sheet
sheet bs at = record { bits = bs; at = at }

-- bits that are pasted whole are laid
pub laid : (s : Sheet) (k : ℕ) (bs : List ℕ) → length bs ≡ k → record { bits = paste s.bits s.at bs k; at = s.at + k } ≡ lay s bs
unfolding lay
laid s k bs e =
    subst (λ (n : ℕ). sheet (paste s.bits s.at bs n) (s.at + n) ≡ lay s bs) e
    (ap (λ (xs : List ℕ). sheet (take s.at s.bits ++ xs ++ drop (s.at + length bs) s.bits) (s.at + length bs)) (take-length bs))

abbrev laid_on : List ℕ → ℕ → List ℕ → List ℕ
laid_on all at xs = take at all ++ xs ++ drop (at + length xs) all

-- what is laid on a list, cut where the lay ends, wherever the list ends
module _ (all : List ℕ) (at : ℕ) (xs : List ℕ) where
  inside : at ≤ length all → length (take at all ++ xs) ≡ at + length xs
  inside h = omega (arith, length-append (take at all) xs, length-take-le at all h)

  outside : length all < at → laid_on all at xs ≡ all ++ xs
  outside h =
      ap₂ (λ (p q : List ℕ). p ++ xs ++ q) (take_all at all (omega arith)) (drop_of_length-le all {i = at + length xs} (omega arith)) ∙ append-nil (all ++ xs)

  head : take (at + length xs) (laid_on all at xs) ≡ take at all ++ xs
  head = go (dec_le at (length all))
    where
      go : Dec (at ≤ length all) → take (at + length xs) (laid_on all at xs) ≡ take at all ++ xs
      go (yes h) = take_at (take at all ++ xs) (drop (at + length xs) all) (at + length xs) (inside h)
      go (no h) =
          ap (take (at + length xs)) (outside (omega arith))
          ∙ take_all (at + length xs) (all ++ xs) (omega (arith, length-append all xs))
          ∙ ap (λ (p : List ℕ). p ++ xs) (sym (take_all at all (omega arith)))

  tail : (k : ℕ) → drop (at + length xs + k) (laid_on all at xs) ≡ drop (at + length xs + k) all
  tail k = go (dec_le at (length all))
    where
      go : Dec (at ≤ length all) → drop (at + length xs + k) (laid_on all at xs) ≡ drop (at + length xs + k) all
      go (yes h) =
          sym (drop-drop k (at + length xs) (laid_on all at xs))
          ∙ ap (drop k) (drop_at (take at all ++ xs) (drop (at + length xs) all) (at + length xs) (inside h))
          ∙ drop-drop k (at + length xs) all
      go (no h) =
          ap (drop (at + length xs + k)) (outside (omega arith))
          ∙ drop_of_length-le (all ++ xs) {i = at + length xs + k} (omega (arith, length-append all xs))
          ∙ sym (drop_of_length-le all {i = at + length xs + k} (omega arith))

-- one lay after another is one lay
pub lay-lay : (s : Sheet) (xs ys : List ℕ) → lay (lay s xs) ys ≡ lay s (xs ++ ys)
unfolding lay
lay-lay s xs ys =
    let at = s.at in
    let all = s.bits in
    let far : at + length xs + length ys ≡ at + length (xs ++ ys) = omega (arith, length-append xs ys) in
    ap₂ sheet
    (ap₂ (λ (p q : List ℕ). p ++ ys ++ q) (head all at xs) (tail all at xs (length ys))
    ∙ ap (λ (p : List ℕ). p ++ drop (at + length xs + length ys) all) (append_assoc (take at all) xs ys)
    ∙ ap (λ (k : ℕ). take at all ++ (xs ++ ys) ++ drop k all) far)
    far

pub lay_then : (s u t : Sheet) (xs ys : List ℕ) → u ≡ lay s xs → t ≡ lay u ys → t ≡ lay s (xs ++ ys)
lay_then s u t xs ys e h = h ∙ ap (λ (v : Sheet). lay v ys) e ∙ lay-lay s xs ys

-- how far a lay goes
pub lay-far : (s t : Sheet) (xs : List ℕ) → t ≡ lay s xs → t.at ≡ s.at + length xs
unfolding lay
lay-far s t xs e = ap (λ (u : Sheet). u.at) e

-- fields that are laid one after another are laid at once
pub ruleset laying = (lay-lay)
