-- Two lists compared place by place: those before the present place are alike, and what is left decides. Assumes nothing.
use Prim.Native.Nat.{ℕ, zero, suc, ◌+◌, ◌≤◌, ◌<◌}
use native.Mathlib.Numerals.{add-one}
use mathlib.Core.Bool.{true, false, cond}
use mathlib.Core.List.{List, [], ◌∷◌}
use mathlib.Core.Path.{◌≡◌, refl, ap₂, ◌∙◌}
use lib.ListN.{length, drop, get_or, drop_of_length-le}
use lib.Seq.{drop-cons, drop-drop}
use Rattle.std.specs.Prelude.{Some, None, slice_get}
use Rattle.cards.specs.Laws.Scans.{past}
use Rattle.cards.specs.declared.station.Record.{Record}
use Rattle.inspect.specs.Difference.{first_of, settings_difference, record_difference, chain_difference}
use Rattle.inspect.specs.Private.{same_place}
use Rattle.inspect.specs.declared.difference.Difference.{Difference}
use Rattle.inspect.specs.declared.difference.Difference.TheVariants.{Length}
use Rattle.inspect.specs.declared.difference.Difference.TheVariants as differs
use Rattle.inspect.specs.declared.settings.Setting.{Setting}

-- ## Settings

-- the first settings decide, or those after them; one that is missing differs from each that is there
heads : (i j : ℕ) (l m : List Setting)
    → settings_difference i j l m ≡ cond (same_place (slice_get l 0) (slice_get m 0)) (settings_difference i (suc j) (drop 1 l) (drop 1 m)) (Some (differs.Setting i j))
unfolding settings_difference
heads i j [] [] = refl
heads i j [] (y ∷ m) = refl
heads i j (x ∷ l) [] = refl
heads i j (x ∷ l) (y ∷ m) = refl

at_drop : (j : ℕ) (l : List Setting) → slice_get (drop j l) 0 ≡ slice_get l j
at_drop zero l = refl
at_drop (suc j) [] = refl
at_drop (suc j) (x ∷ l) = at_drop j l

-- the first j settings are the same
pub record Compared (i : ℕ) (l m : List Setting) (j : ℕ) : Type 0 where
  pub rest : settings_difference i 0 l m ≡ settings_difference i j (drop j l) (drop j m)

pub compared_none : (i : ℕ) (l m : List Setting) → Compared i l m 0
compared_none i l m = record { rest = refl }

module _ {i j : ℕ} {l m : List Setting} (t : Compared i l m j) where
  at_place : settings_difference i 0 l m
      ≡ cond (same_place (slice_get l j) (slice_get m j)) (settings_difference i (j + 1) (drop (j + 1) l) (drop (j + 1) m)) (Some (differs.Setting i j))
  at_place = t.rest ∙ heads i j (drop j l) (drop j m) ∙ simp (at_drop, drop-drop, add-one)

  pub compared_more : same_place (slice_get l j) (slice_get m j) ≡ true → Compared i l m (j + 1)
  compared_more e = record { rest = at_place ∙ rw e }

  pub compared_found : same_place (slice_get l j) (slice_get m j) ≡ false → settings_difference i 0 l m ≡ Some (differs.Setting i j)
  compared_found e = at_place ∙ rw e

  pub compared_all : length l ≤ j → length m ≤ j → settings_difference i 0 l m ≡ None
  unfolding settings_difference
  compared_all x y = t.rest ∙ ap₂ (settings_difference i j) (drop_of_length-le l x) (drop_of_length-le m y)

-- ## Records

-- the first i records of both are alike
pub record Walked (a b : List Record) (i : ℕ) : Type 0 where
  pub rest : chain_difference 0 a b ≡ chain_difference i (drop i a) (drop i b)

pub walked_none : (a b : List Record) → Walked a b 0
walked_none a b = record { rest = refl }

module _ {i : ℕ} {a b : List Record} (t : Walked a b i) where
  -- a record is left of both
  at_both : i < length a → i < length b
      → chain_difference 0 a b ≡ first_of (record_difference i (get_or a i past) (get_or b i past)) (chain_difference (suc i) (drop (suc i) a) (drop (suc i) b))
  unfolding chain_difference
  at_both x y = t.rest ∙ ap₂ (chain_difference i) (drop-cons a i past x) (drop-cons b i past y)

  pub walked_more : i < length a → i < length b → record_difference i (get_or a i past) (get_or b i past) ≡ None → Walked a b (i + 1)
  walked_more x y e = record { rest = at_both x y ∙ rw (e, add-one) }

  pub walked_found : (d : Difference) → i < length a → i < length b → record_difference i (get_or a i past) (get_or b i past) ≡ Some d → chain_difference 0 a b ≡ Some d
  walked_found d x y e = at_both x y ∙ rw e

  -- one chain ends here, the other does not
  pub walked_first : i < length a → length b ≤ i → chain_difference 0 a b ≡ Some (Length i)
  unfolding chain_difference
  walked_first x y = t.rest ∙ ap₂ (chain_difference i) (drop-cons a i past x) (drop_of_length-le b {i = i} y)

  pub walked_second : length a ≤ i → i < length b → chain_difference 0 a b ≡ Some (Length i)
  unfolding chain_difference
  walked_second x y = t.rest ∙ ap₂ (chain_difference i) (drop_of_length-le a {i = i} x) (drop-cons b i past y)

  -- both end here
  pub walked_all : length a ≤ i → length b ≤ i → chain_difference 0 a b ≡ None
  unfolding chain_difference
  walked_all x y = t.rest ∙ ap₂ (chain_difference i) (drop_of_length-le a {i = i} x) (drop_of_length-le b {i = i} y)
