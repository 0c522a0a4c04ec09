-- A line that is words with blanks before each of them has those words. Assumes nothing.
use Prim.Native.Nat.{ℕ, zero, suc, ◌+◌, ◌-◌, ◌<◌}
use mathlib.Core.Bool.{Bool, true, false, not, ◌&&◌}
use mathlib.Core.List.{List, [], ◌∷◌, ◌++◌, map}
use mathlib.Core.Path.{◌≡◌, refl, sym, ap, subst, ◌∙◌}
use native.Mathlib.Omega.{arith}
use borrow.Author.Tests.{not-true, eq-eqb, ne_eqb}
use lib.Dec.{eqb, leb, leb-zero, leb-suc-zero, leb-suc-suc}
use lib.ListN.{length, get_or, take, drop}
use lib.Seq.{drop-drop, drop-append_seam, take-append_seam}
use Rattle.num.specs.Laws.Bools.{both, false_true}
use Rattle.texts.specs.Claims.{each, in_line}
use Rattle.texts.specs.Lines.{ended}
use Rattle.texts.specs.Read.{in_text}
use Rattle.texts.specs.Words.{front, is_blank, is_letter, next_word, span_of, word_of}
use Rattle.texts.specs.declared.words.Span.{Span}
use Rattle.texts.proofs.Spans.{spanned}

-- ## The front of a list

-- the first byte is not such, or there is none
abbrev stops : (ℕ → Bool) → List ℕ → Bool
stops such [] = true
stops such (b ∷ bytes) = not (such b)

front-past : (such : ℕ → Bool) (xs ys : List ℕ) → each such xs ≡ true → stops such ys ≡ true → front such (xs ++ ys) ≡ length xs
unfolding front
front-past such [] [] e s = refl
front-past such [] (y ∷ ys) e s = rw (not-true (such y) s) refl
front-past such (x ∷ xs) ys e s = let h = both (such x) (each such xs) e in rw h.0 (ap suc (front-past such xs ys h.1 s))

pub front_all : (such : ℕ → Bool) (xs : List ℕ) → each such xs ≡ true → front such xs ≡ length xs
unfolding front
front_all such [] e = refl
front_all such (x ∷ xs) e = let h = both (such x) (each such xs) e in rw h.0 (ap suc (front_all such xs h.1))

-- ## Words with blanks before them

-- what stands before a word, and the word
abbrev pub Piece : Type 0
Piece = List ℕ × List ℕ

abbrev pub joined : List Piece → List ℕ
joined [] = []
joined (p ∷ ps) = p.0 ++ (p.1 ++ joined ps)

-- a byte of a line, and one of its text
abbrev pub quiet : ℕ → Bool
quiet b = in_text b && in_line b

abbrev pub lettered : ℕ → Bool
lettered b = is_letter b && quiet b

abbrev pub blanked : ℕ → Bool
blanked b = is_blank b && quiet b

abbrev pub some : List ℕ → Bool
some [] = false
some (b ∷ bytes) = true

pub record Word (word : List ℕ) : Type 0 where
  pub letters : each lettered word ≡ true
  pub full : some word ≡ true

abbrev pub apart : List Piece → Bool
apart [] = true
apart (p ∷ ps) = some p.0

pub data Spaced : List Piece → Type 0 where
  none : Spaced []
  more : {p : Piece} {ps : List Piece} → each blanked p.0 ≡ true → Word p.1 → apart ps ≡ true → Spaced ps → Spaced (p ∷ ps)

parts : {p : Piece} {ps : List Piece} → Spaced (p ∷ ps) → (each blanked p.0 ≡ true) × Word p.1 × (apart ps ≡ true) × Spaced ps
parts (more e w a g) = (e, w, a, g)

-- the first half of each test
first-each : (such also : ℕ → Bool) (xs : List ℕ) → each (λ b. such b && also b) xs ≡ true → each such xs ≡ true
first-each such also [] e = refl
first-each such also (x ∷ xs) e =
    let h = both (such x && also x) (each (λ b. such b && also b) xs) e in
    rw ((both (such x) (also x) h.0).0, first-each such also xs h.1) refl

second-each : (such also : ℕ → Bool) (xs : List ℕ) → each (λ b. such b && also b) xs ≡ true → each also xs ≡ true
second-each such also [] e = refl
second-each such also (x ∷ xs) e =
    let h = both (such x && also x) (each (λ b. such b && also b) xs) e in
    rw ((both (such x) (also x) h.0).1, second-each such also xs h.1) refl

pub each_append : (such : ℕ → Bool) (xs ys : List ℕ) → each such xs ≡ true → each such ys ≡ true → each such (xs ++ ys) ≡ true
each_append such [] ys e f = f
each_append such (x ∷ xs) ys e f = let h = both (such x) (each such xs) e in rw h.0 (each_append such xs ys h.1 f)

joined-quiet : (ps : List Piece) → Spaced ps → each quiet (joined ps) ≡ true
joined-quiet [] g = refl
joined-quiet (p ∷ ps) g =
    each_append quiet p.0 (p.1 ++ joined ps) (second-each is_blank quiet p.0 (parts g).0)
    (each_append quiet p.1 (joined ps) (second-each is_letter quiet p.1 (parts g).1.letters) (joined-quiet ps (parts g).3))

pub joined_text : (ps : List Piece) → Spaced ps → each in_text (joined ps) ≡ true
joined_text ps g = first-each in_text in_line (joined ps) (joined-quiet ps g)

pub joined_line : (ps : List Piece) → Spaced ps → each in_line (joined ps) ≡ true
joined_line ps g = second-each in_text in_line (joined ps) (joined-quiet ps g)

-- a word stops blanks, and blanks stop a word
word-stops : (word rest : List ℕ) → Word word → stops is_blank (word ++ rest) ≡ true
word-stops [] rest w = false_true w.full
word-stops (b ∷ word) rest w = (both (is_letter b) (quiet b) (both (lettered b) (each lettered word) w.letters).0).0

blanks_stop : (sep rest : List ℕ) → each blanked sep ≡ true → some sep ≡ true → stops is_letter (sep ++ rest) ≡ true
blanks_stop [] rest e s = false_true s
blanks_stop (b ∷ sep) rest e s = rw (both (is_blank b) (quiet b) (both (blanked b) (each blanked sep) e).0).0 refl

apart-stops : (ps : List Piece) → Spaced ps → apart ps ≡ true → stops is_letter (joined ps) ≡ true
apart-stops [] g a = refl
apart-stops (p ∷ ps) g a = blanks_stop p.0 (p.1 ++ joined ps) (parts g).0 a

some-length : (word : List ℕ) → some word ≡ true → 0 < length word
some-length [] e = false_true e
some-length (b ∷ word) e = omega arith

-- ## The next word

module _ (line : List ℕ) (at : ℕ) (p : Piece) (ps : List Piece) (is : drop at line ≡ joined (p ∷ ps)) (g : Spaced (p ∷ ps)) where
  at-word : drop (at + length p.0) line ≡ p.1 ++ joined ps
  at-word = sym (drop-drop (length p.0) at line) ∙ ap (drop (length p.0)) is ∙ drop-append_seam p.0 (p.1 ++ joined ps)

  past_word : drop (at + length p.0 + length p.1) line ≡ joined ps
  past_word = sym (drop-drop (length p.1) (at + length p.0) line) ∙ ap (drop (length p.1)) at-word ∙ drop-append_seam p.1 (joined ps)

  next_word_lem : record { from = at + length p.0; to = at + length p.0 + length p.1 } ≡ next_word line at
  next_word_lem =
      spanned line at (at + length p.0) (at + length p.0 + length p.1)
      (ap (λ (n : ℕ). at + n)
      (sym (ap (front is_blank) is
      ∙ front-past is_blank p.0 (p.1 ++ joined ps) (first-each is_blank quiet p.0 (parts g).0) (word-stops p.1 (joined ps) (parts g).1))))
      (ap (λ (n : ℕ). at + length p.0 + n)
      (sym (ap (front is_letter) at-word
      ∙ front-past is_letter p.1 (joined ps) (first-each is_letter quiet p.1 (parts g).1.letters) (apart-stops ps (parts g).3 (parts g).2))))

no_word : (line : List ℕ) (at : ℕ) → drop at line ≡ [] → record { from = at; to = at } ≡ next_word line at
unfolding front
no_word line at is =
    let none : at ≡ at + 0 = omega arith in
    spanned line at at at (none ∙ ap (λ (n : ℕ). at + n) (sym (ap (front is_blank) is))) (none ∙ ap (λ (n : ℕ). at + n) (sym (ap (front is_letter) is)))

-- ## Word by word

-- word i counted from a place on
unfoldable span_from : List ℕ → ℕ → ℕ → Span
span_from line at zero = next_word line at
span_from line at (suc i) = next_word line (span_from line at i).to

from_start : (line : List ℕ) (i : ℕ) → span_of line i ≡ span_from line 0 i
unfolding span_of span_from
from_start line zero = refl
from_start line (suc i) = ap (λ (s : Span). next_word line s.to) (from_start line i)

from_next : (line : List ℕ) (at i : ℕ) → span_from line at (suc i) ≡ span_from line (next_word line at).to i
unfolding span_from
from_next line at zero = refl
from_next line at (suc i) = ap (λ (s : Span). next_word line s.to) (from_next line at i)

from_end : (line : List ℕ) (at i : ℕ) → drop at line ≡ [] → record { from = at; to = at } ≡ span_from line at i
unfolding span_from
from_end line at zero is = no_word line at is
from_end line at (suc i) is = no_word line at is ∙ ap (λ (s : Span). next_word line s.to) (from_end line at i is)

-- word i of the pieces; past the last one it is empty
abbrev pub word_in : List Piece → ℕ → List ℕ
word_in ps i = get_or (map (λ p. p.1) ps) i []

abbrev word_at : List ℕ → Span → List ℕ
word_at line s = take (s.to - s.from) (drop s.from line)

record Reads (line : List ℕ) (ps : List Piece) (i : ℕ) (s : Span) : Type 0 where
  word : word_at line s ≡ word_in ps i
  ends : eqb s.from s.to ≡ leb (length ps) i

reads : (ps : List Piece) (line : List ℕ) (at i : ℕ) → drop at line ≡ joined ps → Spaced ps → Reads line ps i (span_from line at i)
unfolding span_from
reads [] line at i is g =
    subst (Reads line [] i) (from_end line at i is)
    (let none : at - at ≡ 0 = omega arith in record { word = rw none refl; ends = eq-eqb at at refl ∙ sym (leb-zero i) })
reads (p ∷ ps) line at zero is g =
    let a = at + length p.0 in
    let b = a + length p.1 in
    let long : b - a ≡ length p.1 = omega arith in
    subst (Reads line (p ∷ ps) 0) (next_word_lem line at p ps is g)
    (record {
      word = rw long (ap (take (length p.1)) (at-word line at p ps is g) ∙ take-append_seam p.1 (joined ps));
      ends = ne_eqb a b (λ e. omega (arith, some-length p.1 (parts g).1.full)) ∙ sym (leb-suc-zero (length ps));
    })
reads (p ∷ ps) line at (suc i) is g =
    let to = at + length p.0 + length p.1 in
    let later : span_from line to i ≡ span_from line at (suc i) =
    ap (λ (s : Span). span_from line s.to i) (next_word_lem line at p ps is g) ∙ sym (from_next line at i) in
    let r = reads ps line to i (past_word line at p ps is g) (parts g).3 in
    subst (Reads line (p ∷ ps) (suc i)) later (record { word = r.word; ends = r.ends ∙ sym (leb-suc-suc (length ps) i) })

-- ## The words of a line

module _ (ps : List Piece) (g : Spaced ps) where
  pub word-is : (i : ℕ) → word_of (joined ps) i ≡ word_in ps i
  unfolding word_of
  word-is i = ap (word_at (joined ps)) (from_start (joined ps) i) ∙ (reads ps (joined ps) 0 i refl g).word

  pub ended_is : (i : ℕ) → ended (joined ps) i ≡ leb (length ps) i
  ended_is i = ap (λ (s : Span). eqb s.from s.to) (from_start (joined ps) i) ∙ (reads ps (joined ps) 0 i refl g).ends
