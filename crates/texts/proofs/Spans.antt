-- Where words begin and end, and words that are names. Assumes nothing.
use Prim.Native.Nat.{ℕ, suc, ◌+◌, ◌≤◌, ◌<◌}
use mathlib.Core.Bool.{Bool, true, false, cond, ◌&&◌}
use mathlib.Core.List.{List, [], ◌∷◌}
use mathlib.Core.Path.{◌≡◌, refl, sym, ap, ap₂, ◌∙◌}
use native.Mathlib.Omega.{arith}
use borrow.Author.Tests.{eq-eqb, eqb-true, leb-true, leb-false, le-ltb, lt-ltb}
use lib.Dec.{eqb, leb}
use lib.ListN.{length, drop}
use Rattle.std.specs.Prelude.{Decides, map}
use Rattle.std.specs.Char.{to_ascii_lowercase}
use Rattle.std.proofs.lemmas.Bool.{false≢true}
use Rattle.std.proofs.lemmas.Bool.Decides.{same_from_decides}
use Rattle.num.specs.Laws.Bools.{both}
use Rattle.texts.specs.Words.{front, is_blank, is_letter, next_word, span_of, small, is}
use Rattle.texts.specs.declared.words.Span.{Span}

pub spanned : (line : List ℕ) (at from to : ℕ) → from ≡ at + front is_blank (drop at line) → to ≡ from + front is_letter (drop from line)
    → record { from = from; to = to } ≡ next_word line at
unfolding next_word
spanned line at from to e f = rw (f, e) refl

-- after k words
pub record Passed (line : List ℕ) (i : ℕ) (word : Span) (k : ℕ) : Type 0 where
  pub is : word ≡ span_of line k
  pub ordered : word.from ≤ word.to
  pub within : word.to ≤ length line
  pub few : k ≤ i

pub passed_one : (line : List ℕ) (i : ℕ) (word : Span) → (word ≡ next_word line 0) × (word.from ≤ word.to) × (word.to ≤ length line) → Passed line i word 0
unfolding span_of
passed_one line i word e = record { is = e.0; ordered = e.1; within = e.2; few = omega arith }

pub passed_more : {line : List ℕ} {i : ℕ} {word : Span} {k : ℕ} (t : Passed line i word k) (next : Span) → k < i
    → (next ≡ next_word line word.to) × (next.from ≤ next.to) × (next.to ≤ length line) → Passed line i next (suc k)
unfolding span_of
passed_more {line} t next l e = record { is = e.0 ∙ ap (λ (s : Span). next_word line s.to) t.is; ordered = e.1; within = e.2; few = omega arith }

pub passed_all : {line : List ℕ} {i : ℕ} {word : Span} {k : ℕ} (t : Passed line i word k) → i ≤ k
    → (word ≡ span_of line i) × (word.from ≤ word.to) × (word.to ≤ length line)
passed_all {line} {i} {word} {k} t l = let same : k ≡ i = omega (arith, t.few) in (t.is ∙ ap (span_of line) same, t.ordered, t.within)

-- a letter without its case, as std has it
lower : (b : ℕ) → small b ≡ to_ascii_lowercase b
lower b = go (leb 65 b) refl (leb b 90) refl
  where
    go : (t : Bool) → leb 65 b ≡ t → (u : Bool) → leb b 90 ≡ u → cond (t && u) (b + 32) b ≡ to_ascii_lowercase b
    go true e true f = rw (le-ltb b 65 (leb-true 65 b e), lt-ltb b 91 (omega (arith, leb-true b 90 f))) refl
    go true e false f = rw (le-ltb b 65 (leb-true 65 b e), le-ltb b 91 (omega (arith, leb-false b 90 f))) refl
    go false e u f = rw (lt-ltb b 65 (leb-false 65 b e)) refl

lowers : (l : List ℕ) → map small l ≡ map to_ascii_lowercase l
lowers [] = refl
lowers (b ∷ l) = ap₂ (λ (x : ℕ) (xs : List ℕ). x ∷ xs) (lower b) (lowers l)

-- a word is a name where the letters are the same without their case
is_told : (word name : List ℕ) → Decides (is word name) (map small word ≡ map small name)
unfolding is
is_told [] [] = (λ e. refl, λ e. refl)
is_told [] (c ∷ name) = (λ e. absurd (false≢true e), λ e. absurd (let z : ◌≡◌ {A = ℕ} 0 1 = cc in omega arith))
is_told (b ∷ word) [] = (λ e. absurd (false≢true e), λ e. absurd (let z : ◌≡◌ {A = ℕ} 0 1 = cc in omega arith))
is_told (b ∷ word) (c ∷ name) =
    let rest = is_told word name in (
      λ e. let h = both (eqb (small b) (small c)) (is word name) e in ap₂ (λ (x : ℕ) (xs : List ℕ). x ∷ xs) (eqb-true (small b) (small c) h.0) (rest.0 h.1),
      λ e. rw (eq-eqb (small b) (small c) cc, rest.1 cc) refl,
    )

pub is_by_letters : (r : Bool) (word name : List ℕ) → Decides r (map to_ascii_lowercase word ≡ map to_ascii_lowercase name) → r ≡ is word name
is_by_letters r word name d =
    let as_std : (l : List ℕ) → map small l ≡ map to_ascii_lowercase l = lowers in
    same_from_decides r (is word name) d
    (λ e. sym (as_std word) ∙ (is_told word name).0 e ∙ as_std name, λ e. (is_told word name).1 (as_std word ∙ e ∙ sym (as_std name)))
