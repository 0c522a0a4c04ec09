-- A text, line after line: what a draft becomes by a line, where lines end, and a loop that has read up to a place. Assumes nothing.
use Prim.Native.Nat.{ℕ, suc, ◌+◌, ◌-◌, ◌≤◌, ◌<◌}
use mathlib.Core.Bool.{Bool, true, false, not, cond, ◌&&◌}
use mathlib.Core.List.{List, [], ◌∷◌}
use mathlib.Core.Path.{◌≡◌, refl, sym, ap, ◌∙◌}
use native.Mathlib.Numerals.{add-one}
use native.Mathlib.Omega.{arith}
use borrow.Author.Tests.{eq-eqb, ne_eqb, le-leb, lt-leb}
use lib.Dec.{eqb}
use lib.ListN.{length, take, drop, length-drop, drop_of_length-le}
use lib.Seq.{drop-drop}
use Rattle.std.specs.Prelude.{Result, Ok, Err}
use Rattle.cards.specs.Normal.{good_station}
use Rattle.cards.specs.Passes.{kind_of}
use Rattle.cards.specs.declared.station.Record.{Record}
use Rattle.cards.specs.declared.station.Station.{Station}
use Rattle.texts.specs.Lines.{faulty, line_of}
use Rattle.texts.specs.Read.{before, lines_of, in_text, uncommented, begun, appended, with_pass, with_none, with_line}
use Rattle.texts.specs.Read.{made, failed, finished, read_on, read_lines, made_of}
use Rattle.texts.specs.Words.{front}
use Rattle.texts.specs.declared.lines.Fault.{Fault}
use Rattle.texts.specs.declared.mistake.Mistake.TheVariants.{PassOutOfPlace, TooManyPasses, PassBesideNone, NoPass}
use Rattle.texts.specs.declared.read.Draft.{Draft}
use Rattle.texts.specs.declared.read.Misread.{Misread}

-- ## One pass more

module _ (d : Draft) (r : Record) (k : ℕ) (is : k ≡ kind_of r.pass) where
  pub after_none : (f : Fault) → d.bare ≡ true → f ≡ faulty PassBesideNone 0 k 0 → Err f ≡ with_pass d r
  unfolding with_pass
  after_none f b g = rw (g, is, b) refl

  module _ (b : d.bare ≡ false) where
    pub beyond : (f : Fault) → 12 ≤ d.station.n → f ≡ faulty TooManyPasses 0 k 0 → Err f ≡ with_pass d r
    unfolding with_pass
    beyond f l g = rw (g, is, b, le-leb 12 d.station.n l) refl

    module _ (few : d.station.n < 12) (s : Station) (t : s ≡ appended d.station r) {good : Bool} (asked : good ≡ good_station s) where
      pub misplaced : (f : Fault) → good ≡ false → f ≡ faulty PassOutOfPlace 0 k 0 → Err f ≡ with_pass d r
      unfolding with_pass
      misplaced f n g = rw (g, is, b, lt-leb 12 d.station.n few, sym t, sym asked ∙ n) refl

      pub in_place : good ≡ true → Ok (record { station = s; bare = false }) ≡ with_pass d r
      unfolding with_pass
      in_place y = rw (b, lt-leb 12 d.station.n few, sym t, sym asked ∙ y) refl

-- ## No pass

module _ (d : Draft) where
  pub beside : (f : Fault) → (d.station.n ≡ 0 → ⊥) → f ≡ faulty PassBesideNone 0 0 0 → Err f ≡ with_none d
  unfolding with_none
  beside f n g = rw (g, ne_eqb d.station.n 0 n) refl

  pub alone : d.station.n ≡ 0 → Ok (record { station = d.station; bare = true }) ≡ with_none d
  unfolding with_none
  alone z = rw (eq-eqb d.station.n 0 z) refl

-- ## At the end

module _ (i : ℕ) (d : Draft) where
  pub has_pass : (d.station.n ≡ 0 → ⊥) → made d.station ≡ finished i d
  unfolding finished
  has_pass n = rw (ne_eqb d.station.n 0 n) refl

  pub has_none : d.bare ≡ true → made d.station ≡ finished i d
  unfolding finished
  has_none b = go (eqb d.station.n 0)
    where
      go : (t : Bool) → made d.station ≡ cond (t && not d.bare) (failed i (faulty NoPass 0 0 0)) (made d.station)
      go true = rw b refl
      go false = refl

  pub has_nothing : (f : Fault) → d.station.n ≡ 0 → d.bare ≡ false → f ≡ faulty NoPass 0 0 0 → failed i f ≡ finished i d
  unfolding finished
  has_nothing f z b g = rw (g, eq-eqb d.station.n 0 z, b) refl

-- ## Lines

abbrev pub in_line : ℕ → Bool
in_line b = not (eqb b 10)

opened : (b : ℕ) (bs : List ℕ) (t : Bool) → before b (lines_of bs) ≡ (b ∷ take (front in_line bs) bs) ∷ lines_of (drop (suc (front in_line bs)) bs)
    → cond t ([] ∷ lines_of bs) (before b (lines_of bs))
    ≡ take (cond (not t) (suc (front in_line bs)) 0) (b ∷ bs) ∷ lines_of (drop (suc (cond (not t) (suc (front in_line bs)) 0)) (b ∷ bs))
opened b bs true e = refl
opened b bs false e = e

-- what stands before the first end of a line is a line, and the others stand behind it
pub first-line : (bs : List ℕ) → 0 < length bs → lines_of bs ≡ take (front in_line bs) bs ∷ lines_of (drop (suc (front in_line bs)) bs)
unfolding lines_of front
first-line [] l = absurd (omega (arith, l))
first-line (b ∷ []) l = opened b [] (eqb b 10) refl
first-line (b ∷ a ∷ bs) l = opened b (a ∷ bs) (eqb b 10) (ap (before b) (first-line (a ∷ bs) (omega arith)))

pub before_comment : (d : Draft) (line : List ℕ) (n : ℕ) → n ≡ front in_text line → with_line d (line_of (take n line)) ≡ with_line d (line_of (uncommented line))
unfolding uncommented
before_comment d line n e = ap (λ (k : ℕ). with_line d (line_of (take k line))) e

-- ## Line after line

-- the lines before place `at` made the draft
pub record Reached (text : List ℕ) (d : Draft) (at line : ℕ) : Type 0 where
  pub left : made_of text ≡ read_lines line d (lines_of (drop at text))
  pub few : line ≤ at

pub reached_none : (text : List ℕ) (d : Draft) → d ≡ begun → Reached text d 0 0
unfolding made_of
reached_none text d e = record { left = rw e refl; few = omega arith }

module _ {text : List ℕ} {d : Draft} {at line : ℕ} (t : Reached text d at line) where
  module _ (l : at < length text) (end : ℕ) {e : Result Draft Fault} (ends : end ≡ at + front in_line (drop at text))
      (is : e ≡ with_line d (line_of (uncommented (take (end - at) (drop at text))))) where
    here : made_of text ≡ read_on line e (λ g. read_lines (suc line) g (lines_of (drop (end + 1) text)))
    unfolding read_lines
    here =
        let xs = drop at text in
        let n = front in_line xs in
        let rest = lines_of (drop (end + 1) text) in
        let long : end - at ≡ n = omega (arith, ends) in
        let some : 0 < length xs = omega (arith, length-drop at text) in
        let place : at + suc n ≡ end + 1 = omega (arith, ends) in
        let past : drop (suc n) xs ≡ drop (end + 1) text = drop-drop (suc n) at text ∙ ap (λ (k : ℕ). drop k text) place in
        let lines : lines_of xs ≡ take (end - at) xs ∷ rest
        = first-line xs some ∙ ap (λ (ys : List ℕ). take n xs ∷ lines_of ys) past ∙ ap (λ (k : ℕ). take k xs ∷ rest) (sym long) in
        t.left ∙ ap (read_lines line d) lines ∙ ap (λ (g : Result Draft Fault). read_on line g (λ h. read_lines (suc line) h rest)) (sym is)

    pub read-stops : (f : Fault) → e ≡ Err f → failed line f ≡ made_of text
    read-stops f h = sym (here ∙ rw h refl)

    pub reached_more : (g : Draft) → e ≡ Ok g → Reached text g (end + 1) (line + 1)
    reached_more g h = record { left = here ∙ rw (h, add-one line) refl; few = omega (arith, ends, t.few) }

  pub read_all : {r : Result Station Misread} → length text ≤ at → r ≡ finished line d → r ≡ made_of text
  unfolding read_lines lines_of
  read_all l h = h ∙ sym (t.left ∙ ap (λ (xs : List ℕ). read_lines line d (lines_of xs)) (drop_of_length-le text l))
