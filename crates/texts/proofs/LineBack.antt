-- The line of a pass is read back as that pass: it is words with blanks before them, and each word is read back, the name of the pass, its switch, and
-- the name and the value of each setting. Assumes nothing.
use Prim.Native.Nat.{ℕ, suc, ◌+◌, ◌*◌}
use mathlib.Core.Bool.{Bool, true, false, cond, ◌&&◌}
use mathlib.Core.List.{List, [], ◌∷◌, ◌++◌, append_assoc, append-nil}
use mathlib.Core.Path.{◌≡◌, refl, sym, ap, ap₂, ◌∙◌}
use native.Mathlib.Omega.{arith}
use borrow.Author.Tests.{eq-eqb}
use lib.Dec.{eqb, leb}
use lib.Ieee.{neg}
use lib.ListN.{length}
use Rattle.std.specs.Prelude.{Option, Some, None, Result, Ok, Err}
use Rattle.cards.proofs.Chain.{NormalPass}
use Rattle.cards.specs.Passes.{kind_of}
use Rattle.cards.specs.Records.{carded}
use Rattle.cards.specs.declared.station.Pass.{Pass}
use Rattle.cards.specs.declared.station.Pass.TheVariants.{Ntsc, Bloom, AutoGradient, Persistence, Lut, Curvature, ColorCorrection, Crt, Vignette, Scanlines}
use Rattle.cards.specs.declared.station.Record.{Record}
use Rattle.inspect.specs.Settings.{setting_of}
use Rattle.inspect.specs.declared.settings.Setting.{Setting}
use Rattle.inspect.specs.declared.settings.Setting.TheVariants.{Real, Whole}
use Rattle.num.specs.Const.{c0_0, c0_01, c0_5, c0_95, c1_0, c4_0}
use Rattle.texts.specs.Claims.{each}
use Rattle.texts.specs.Lines.{faulty, ended, kind_in, switch_in, fault_or, fault_from, switched, unless, pass_line, line_by, line_of}
use Rattle.texts.specs.Names.{kind_name, setting_name, found}
use Rattle.texts.specs.Print.{real_text, whole_text, count_text, mark_text, label_text, setting_text, place_text, settings_text, switch_text, line_text}
use Rattle.texts.specs.Settings.{slot_of, value_of, placed, setting_at, setting_in, taken, arity, Maker, pass_of, pass_in}
use Rattle.texts.specs.Words.{ascii, small, is, word_of}
use Rattle.texts.specs.declared.lines.Fault.{Fault}
use Rattle.texts.specs.declared.lines.Line.{Line}
use Rattle.texts.specs.declared.lines.Line.TheVariants as L
use Rattle.texts.specs.declared.mistake.Mistake.{Mistake}
use Rattle.texts.specs.declared.mistake.Mistake.TheVariants.{SpareWord}
use Rattle.texts.specs.declared.settings.Slot.{Slot}
use Rattle.texts.proofs.CountBack.{whole_word, whole_back, preset-word, preset_back}
use Rattle.texts.proofs.Lexing.{Piece, joined, Word, apart, Spaced, none, more, blanked, lettered, some, word-is, ended_is}
use Rattle.texts.proofs.RealBack.{real-word, real_back, zero-small, hundredth_small, half-small, most-small, one-small, minus_small, four-small}
use Rattle.texts.proofs.Tests.{cond_yes, cond_no}

-- ## A line as words with blanks before them

abbrev field_of : (kind j : ℕ) → List ℕ → List Piece
field_of kind j value = (mark_text j, setting_name kind j) ∷ (ascii " ", value) ∷ []

abbrev piece_of : (kind j : ℕ) → Option Setting → List Piece
piece_of kind j (Some (Real x)) = field_of kind j (real_text x)
piece_of kind j (Some (Whole v)) = field_of kind j (count_text kind v)
piece_of kind j None = []

abbrev pieces_at : Pass → ℕ → List Piece
pieces_at p j = piece_of (kind_of p) j (setting_of p j)

abbrev pass_pieces : Pass → List Piece
pass_pieces p = pieces_at p 0 ++ pieces_at p 1 ++ pieces_at p 2 ++ pieces_at p 3

abbrev pub line_pieces : Bool → Pass → List Piece
line_pieces on p = ([], kind_name (kind_of p)) ∷ (ascii ", ", switch_text on) ∷ pass_pieces p

joined-append : (ps qs : List Piece) → joined (ps ++ qs) ≡ joined ps ++ joined qs
joined-append [] qs = refl
joined-append (p ∷ ps) qs =
    ap (λ (l : List ℕ). p.0 ++ (p.1 ++ l)) (joined-append ps qs)
    ∙ sym (append_assoc p.0 (p.1 ++ joined ps) (joined qs) ∙ ap (λ (l : List ℕ). p.0 ++ l) (append_assoc p.1 (joined ps) (joined qs)))

field_text : (kind j : ℕ) (value : List ℕ) → label_text kind j ++ value ≡ joined (field_of kind j value)
field_text kind j value =
    append_assoc (mark_text j ++ setting_name kind j) (ascii " ") value
    ∙ append_assoc (mark_text j) (setting_name kind j) (ascii " " ++ value)
    ∙ ap (λ (l : List ℕ). mark_text j ++ (setting_name kind j ++ (ascii " " ++ l))) (sym (append-nil value))

setting_text_lem : (kind j : ℕ) (s : Option Setting) → setting_text kind j s ≡ joined (piece_of kind j s)
unfolding setting_text
setting_text_lem kind j (Some (Real x)) = field_text kind j (real_text x)
setting_text_lem kind j (Some (Whole v)) = field_text kind j (count_text kind v)
setting_text_lem kind j None = refl

settings_text_lem : (p : Pass) → settings_text p ≡ joined (pass_pieces p)
unfolding settings_text
settings_text_lem p =
    let t : (j : ℕ) → place_text p j ≡ joined (pieces_at p j) = λ j. setting_text_lem (kind_of p) j (setting_of p j) in
    ap₂ (λ (a b : List ℕ). a ++ b) (ap₂ (λ (a b : List ℕ). a ++ b) (ap₂ (λ (a b : List ℕ). a ++ b) (t 0) (t 1)) (t 2)) (t 3)
    ∙ sym (joined-append (pieces_at p 0 ++ pieces_at p 1 ++ pieces_at p 2) (pieces_at p 3)
    ∙ ap (λ (l : List ℕ). l ++ joined (pieces_at p 3)) (joined-append (pieces_at p 0 ++ pieces_at p 1) (pieces_at p 2)
    ∙ ap (λ (l : List ℕ). l ++ joined (pieces_at p 2)) (joined-append (pieces_at p 0) (pieces_at p 1))))

pub line_text_lem : (r : Record) → line_text r ≡ joined (line_pieces r.on r.pass) ++ (10 ∷ [])
unfolding line_text
line_text_lem r =
    let k = kind_name (kind_of r.pass) in
    let s = switch_text r.on in
    let t = joined (pass_pieces r.pass) in
    ap (λ (l : List ℕ). k ++ ascii ", " ++ s ++ l ++ (10 ∷ [])) (settings_text_lem r.pass)
    ∙ ap (λ (l : List ℕ). l ++ (10 ∷ [])) (append_assoc (k ++ ascii ", ") s t ∙ append_assoc k (ascii ", ") (s ++ t))

-- ## Each word is one

switch_word : (on : Bool) → Word (switch_text on)
switch_word true = record { letters = refl; full = refl }
switch_word false = record { letters = refl; full = refl }

-- as a name is
plain : {word : List ℕ} → each lettered word ≡ true → some word ≡ true → Word word
plain e f = record { letters = e; full = f }

-- the name of the pass and its switch
begins : {name : List ℕ} {ps : List Piece} (on : Bool) → Word name → apart ps ≡ true → Spaced ps → Spaced (([], name) ∷ (ascii ", ", switch_text on) ∷ ps)
begins on w a g = more refl w refl (more refl (switch_word on) a g)

-- a setting
field : {mark name value : List ℕ} {ps : List Piece} → each blanked mark ≡ true → Word name → Word value → apart ps ≡ true → Spaced ps
    → Spaced ((mark, name) ∷ (ascii " ", value) ∷ ps)
field e w v a g = more e w refl (more refl v a g)

-- before each word are blanks, and behind it
pub spaced : (on : Bool) (p : Pass) → NormalPass p → Spaced (line_pieces on p)
spaced on (Ntsc a b) n =
    begins on (plain refl refl) refl
    (field refl (plain refl refl) (real-word a n.0.held) refl
    (field refl (plain refl refl) (whole_word b (omega (arith, n.1.few))) refl none))
spaced on (Bloom a b c) n =
    begins on (plain refl refl) refl
    (field refl (plain refl refl) (whole_word a n.0) refl
    (field refl (plain refl refl) (real-word b n.1.held) refl
    (field refl (plain refl refl) (whole_word c (omega (arith, n.2.few))) refl none)))
spaced on (AutoGradient a b c) n =
    begins on (plain refl refl) refl
    (field refl (plain refl refl) (real-word a n.0.held) refl
    (field refl (plain refl refl) (real-word b n.1.held) refl
    (field refl (plain refl refl) (real-word c n.2.held) refl none)))
spaced on (Persistence a b) n =
    begins on (plain refl refl) refl
    (field refl (plain refl refl) (real-word a n.0.held) refl
    (field refl (plain refl refl) (whole_word b (omega (arith, n.1.few))) refl none))
spaced on (Lut a b) n =
    begins on (plain refl refl) refl
    (field refl (plain refl refl) (preset-word a n.0) refl
    (field refl (plain refl refl) (real-word b n.1.held) refl none))
spaced on (Curvature a) n =
    begins on (plain refl refl) refl
    (field refl (plain refl refl) (real-word a n.held) refl none)
spaced on (ColorCorrection a b c d) n =
    begins on (plain refl refl) refl
    (field refl (plain refl refl) (real-word a n.0.held) refl
    (field refl (plain refl refl) (real-word b n.1.held) refl
    (field refl (plain refl refl) (real-word c n.2.held) refl
    (field refl (plain refl refl) (real-word d n.3.held) refl none))))
spaced on (Crt a) n =
    begins on (plain refl refl) refl
    (field refl (plain refl refl) (real-word a n.held) refl none)
spaced on (Vignette a) n =
    begins on (plain refl refl) refl
    (field refl (plain refl refl) (real-word a n.held) refl none)
spaced on (Scanlines a) n =
    begins on (plain refl refl) refl
    (field refl (plain refl refl) (real-word a n.held) refl none)

-- ## The words are read back

is_itself : (name : List ℕ) → is name name ≡ true
unfolding is
is_itself [] = refl
is_itself (b ∷ name) = ap₂ (λ (a c : Bool). a && c) (eq-eqb (small b) (small b) refl) (is_itself name)

-- a setting, from its name and its value
setting_told : (line : List ℕ) (kind j : ℕ) (value : List ℕ) (s : Setting) {slot : Slot} → slot_of kind j ≡ Some slot
    → word_of line (2 + 2 * j) ≡ setting_name kind j → word_of line (3 + 2 * j) ≡ value → value_of slot value ≡ Ok s → setting_in line kind j ≡ Ok (Some s)
unfolding setting_in
setting_told line kind j value s {slot} e name v back =
    ap (λ (o : Option Slot). setting_at o kind j (word_of line (2 + 2 * j)) (word_of line (3 + 2 * j))) e
    ∙ sym (cond_yes (is (word_of line (2 + 2 * j)) (setting_name kind j)) _ _ _
    (ap (λ (w : List ℕ). is w (setting_name kind j)) name ∙ is_itself (setting_name kind j)) (sym (ap (λ (w : List ℕ). placed (value_of slot w)) v ∙ ap placed back)))

setting_absent : (line : List ℕ) (kind j : ℕ) → slot_of kind j ≡ None → setting_in line kind j ≡ Ok None
unfolding setting_in
setting_absent line kind j e = ap (λ (o : Option Slot). setting_at o kind j (word_of line (2 + 2 * j)) (word_of line (3 + 2 * j))) e

record Told (line : List ℕ) (p : Pass) : Type 0 where
  first : setting_in line (kind_of p) 0 ≡ Ok (setting_of p 0)
  second : setting_in line (kind_of p) 1 ≡ Ok (setting_of p 1)
  third : setting_in line (kind_of p) 2 ≡ Ok (setting_of p 2)
  fourth : setting_in line (kind_of p) 3 ≡ Ok (setting_of p 3)

told : (on : Bool) (p : Pass) → NormalPass p → Told (joined (line_pieces on p)) p
told on (Ntsc a b) n =
    let ps = line_pieces on (Ntsc a b) in
    let w = word-is ps (spaced on (Ntsc a b) n) in
    record {
      first = setting_told (joined ps) 1 0 (real_text a) (Real a) refl (w 2) (w 3) (real_back c0_0 c1_0 a zero-small one-small n.0);
      second = setting_told (joined ps) 1 1 (whole_text b) (Whole b) refl (w 4) (w 5) (whole_back 1 64 b (omega (arith, n.1.few)) n.1.some n.1.few);
      third = setting_absent (joined ps) 1 2 refl;
      fourth = setting_absent (joined ps) 1 3 refl;
    }
told on (Bloom a b c) n =
    let ps = line_pieces on (Bloom a b c) in
    let w = word-is ps (spaced on (Bloom a b c) n) in
    record {
      first = setting_told (joined ps) 2 0 (whole_text a) (Whole a) refl (w 2) (w 3) (whole_back 0 255 a n.0 (omega arith) (omega (arith, n.0)));
      second = setting_told (joined ps) 2 1 (real_text b) (Real b) refl (w 4) (w 5) (real_back c0_0 c1_0 b zero-small one-small n.1);
      third = setting_told (joined ps) 2 2 (whole_text c) (Whole c) refl (w 6) (w 7) (whole_back 1 64 c (omega (arith, n.2.few)) n.2.some n.2.few);
      fourth = setting_absent (joined ps) 2 3 refl;
    }
told on (AutoGradient a b c) n =
    let ps = line_pieces on (AutoGradient a b c) in
    let w = word-is ps (spaced on (AutoGradient a b c) n) in
    record {
      first = setting_told (joined ps) 3 0 (real_text a) (Real a) refl (w 2) (w 3) (real_back c0_0 c1_0 a zero-small one-small n.0);
      second = setting_told (joined ps) 3 1 (real_text b) (Real b) refl (w 4) (w 5) (real_back c0_0 c1_0 b zero-small one-small n.1);
      third = setting_told (joined ps) 3 2 (real_text c) (Real c) refl (w 6) (w 7) (real_back c0_0 c1_0 c zero-small one-small n.2);
      fourth = setting_absent (joined ps) 3 3 refl;
    }
told on (Persistence a b) n =
    let ps = line_pieces on (Persistence a b) in
    let w = word-is ps (spaced on (Persistence a b) n) in
    record {
      first = setting_told (joined ps) 4 0 (real_text a) (Real a) refl (w 2) (w 3) (real_back c0_0 c0_95 a zero-small most-small n.0);
      second = setting_told (joined ps) 4 1 (whole_text b) (Whole b) refl (w 4) (w 5) (whole_back 1 8 b (omega (arith, n.1.few)) n.1.some n.1.few);
      third = setting_absent (joined ps) 4 2 refl;
      fourth = setting_absent (joined ps) 4 3 refl;
    }
told on (Lut a b) n =
    let ps = line_pieces on (Lut a b) in
    let w = word-is ps (spaced on (Lut a b) n) in
    record {
      first = setting_told (joined ps) 5 0 (count_text 5 a) (Whole a) refl (w 2) (w 3) (preset_back a n.0);
      second = setting_told (joined ps) 5 1 (real_text b) (Real b) refl (w 4) (w 5) (real_back c0_0 c1_0 b zero-small one-small n.1);
      third = setting_absent (joined ps) 5 2 refl;
      fourth = setting_absent (joined ps) 5 3 refl;
    }
told on (Curvature a) n =
    let ps = line_pieces on (Curvature a) in
    let w = word-is ps (spaced on (Curvature a) n) in
    record {
      first = setting_told (joined ps) 6 0 (real_text a) (Real a) refl (w 2) (w 3) (real_back c0_0 c0_5 a zero-small half-small (n));
      second = setting_absent (joined ps) 6 1 refl;
      third = setting_absent (joined ps) 6 2 refl;
      fourth = setting_absent (joined ps) 6 3 refl;
    }
told on (ColorCorrection a b c d) n =
    let ps = line_pieces on (ColorCorrection a b c d) in
    let w = word-is ps (spaced on (ColorCorrection a b c d) n) in
    record {
      first = setting_told (joined ps) 7 0 (real_text a) (Real a) refl (w 2) (w 3) (real_back (neg c1_0) c1_0 a minus_small one-small n.0);
      second = setting_told (joined ps) 7 1 (real_text b) (Real b) refl (w 4) (w 5) (real_back c0_0 c4_0 b zero-small four-small n.1);
      third = setting_told (joined ps) 7 2 (real_text c) (Real c) refl (w 6) (w 7) (real_back c0_0 c4_0 c zero-small four-small n.2);
      fourth = setting_told (joined ps) 7 3 (real_text d) (Real d) refl (w 8) (w 9) (real_back c0_01 c4_0 d hundredth_small four-small n.3);
    }
told on (Crt a) n =
    let ps = line_pieces on (Crt a) in
    let w = word-is ps (spaced on (Crt a) n) in
    record {
      first = setting_told (joined ps) 8 0 (real_text a) (Real a) refl (w 2) (w 3) (real_back c0_0 c1_0 a zero-small one-small (n));
      second = setting_absent (joined ps) 8 1 refl;
      third = setting_absent (joined ps) 8 2 refl;
      fourth = setting_absent (joined ps) 8 3 refl;
    }
told on (Vignette a) n =
    let ps = line_pieces on (Vignette a) in
    let w = word-is ps (spaced on (Vignette a) n) in
    record {
      first = setting_told (joined ps) 9 0 (real_text a) (Real a) refl (w 2) (w 3) (real_back c0_0 c1_0 a zero-small one-small (n));
      second = setting_absent (joined ps) 9 1 refl;
      third = setting_absent (joined ps) 9 2 refl;
      fourth = setting_absent (joined ps) 9 3 refl;
    }
told on (Scanlines a) n =
    let ps = line_pieces on (Scanlines a) in
    let w = word-is ps (spaced on (Scanlines a) n) in
    record {
      first = setting_told (joined ps) 10 0 (real_text a) (Real a) refl (w 2) (w 3) (real_back c0_0 c1_0 a zero-small one-small (n));
      second = setting_absent (joined ps) 10 1 refl;
      third = setting_absent (joined ps) 10 2 refl;
      fourth = setting_absent (joined ps) 10 3 refl;
    }

-- ## The line is read back

-- what is plain of each kind
record Known (on : Bool) (p : Pass) : Type 0 where
  kind : kind_in (kind_name (kind_of p)) ≡ Some (kind_of p)
  some : eqb (kind_of p) 0 ≡ false
  starts : leb (length (line_pieces on p)) 0 ≡ false
  ends : leb (length (line_pieces on p)) (2 + 2 * arity (kind_of p)) ≡ true
  same : pass_of (kind_of p) (setting_of p 0) (setting_of p 1) (setting_of p 2) (setting_of p 3) ≡ p

known : (on : Bool) (p : Pass) → Known on p
unfolding kind_in found is
known on (Ntsc a b) = record { kind = refl; some = refl; starts = refl; ends = refl; same = refl }
known on (Bloom a b c) = record { kind = refl; some = refl; starts = refl; ends = refl; same = refl }
known on (AutoGradient a b c) = record { kind = refl; some = refl; starts = refl; ends = refl; same = refl }
known on (Persistence a b) = record { kind = refl; some = refl; starts = refl; ends = refl; same = refl }
known on (Lut a b) = record { kind = refl; some = refl; starts = refl; ends = refl; same = refl }
known on (Curvature a) = record { kind = refl; some = refl; starts = refl; ends = refl; same = refl }
known on (ColorCorrection a b c d) = record { kind = refl; some = refl; starts = refl; ends = refl; same = refl }
known on (Crt a) = record { kind = refl; some = refl; starts = refl; ends = refl; same = refl }
known on (Vignette a) = record { kind = refl; some = refl; starts = refl; ends = refl; same = refl }
known on (Scanlines a) = record { kind = refl; some = refl; starts = refl; ends = refl; same = refl }

switch_told : (on : Bool) → switch_in (switch_text on) ≡ Some on
unfolding switch_in is
switch_told true = refl
switch_told false = refl

no_fault : (n : ℕ) (line : List ℕ) (kind j : ℕ) (s : Option Setting) → setting_in line kind j ≡ Ok s
    → fault_from (suc n) line kind j ≡ fault_from n line kind (suc j)
unfolding fault_from
no_fault n line kind j s e = ap (λ (v : Result (Option Setting) Mistake). fault_or v kind j (fault_from n line kind (suc j))) e

taken_all : (f : Maker) {a b c d : Result (Option Setting) Mistake} {s t u v : Option Setting} → a ≡ Ok s → b ≡ Ok t → c ≡ Ok u → d ≡ Ok v
    → f (taken a) (taken b) (taken c) (taken d) ≡ f s t u v
taken_all f {a} {b} {c} {d} {s} {t} {u} {v} e g h k =
    ap (λ (x : Result (Option Setting) Mistake). f (taken x) (taken b) (taken c) (taken d)) e
    ∙ ap (λ (x : Result (Option Setting) Mistake). f s (taken x) (taken c) (taken d)) g
    ∙ ap (λ (x : Result (Option Setting) Mistake). f s t (taken x) (taken d)) h
    ∙ ap (λ (x : Result (Option Setting) Mistake). f s t u (taken x)) k

module _ (on : Bool) (p : Pass) (n : NormalPass p) where
  abbrev line : List ℕ
  line = joined (line_pieces on p)

  fine : fault_from 4 line (kind_of p) 0 ≡ None
  unfolding fault_from
  fine =
      let k = kind_of p in
      let t = told on p n in
      no_fault 3 line k 0 (setting_of p 0) t.first ∙ no_fault 2 line k 1 (setting_of p 1) t.second ∙ no_fault 1 line k 2 (setting_of p 2) t.third
      ∙ no_fault 0 line k 3 (setting_of p 3) t.fourth

  pass_is : pass_in line (kind_of p) ≡ p
  pass_is = let t = told on p n in taken_all (pass_of (kind_of p)) t.first t.second t.third t.fourth ∙ (known on p).same

  pass_back : pass_line line (kind_of p) ≡ Ok (L.Pass (carded on p))
  unfolding pass_line
  pass_back =
      let k = kind_of p in
      let g = spaced on p n in
      let spare = 2 + 2 * arity k in
      let rest : Bool → Result Line Fault = λ b. cond (ended line spare) (Ok (L.Pass (carded b (pass_in line k)))) (Err (faulty SpareWord spare k 0)) in
      let switch : switch_in (word_of line 1) ≡ Some on = ap switch_in (word-is (line_pieces on p) g 1) ∙ switch_told on in
      ap (λ (o : Option Bool). switched o k (λ b. unless (fault_from 4 line k 0) (rest b))) switch
      ∙ ap (λ (f : Option Fault). unless f (rest on)) fine
      ∙ sym (cond_yes (ended line spare) _ _ _ (ended_is (line_pieces on p) g spare ∙ (known on p).ends)
      (sym (ap (λ (q : Pass). Ok (L.Pass (carded on q))) pass_is)))

  pub line_back : line_of line ≡ Ok (L.Pass (carded on p))
  unfolding line_of
  line_back =
      let g = spaced on p n in
      let q = known on p in
      let kind : kind_in (word_of line 0) ≡ Some (kind_of p) = ap kind_in (word-is (line_pieces on p) g 0) ∙ q.kind in
      sym (cond_no (ended line 0) _ _ _ (ended_is (line_pieces on p) g 0 ∙ q.starts)
      (sym (ap (λ (o : Option ℕ). line_by o line) kind ∙ sym (cond_no (eqb (kind_of p) 0) (pass_line line (kind_of p)) _ _ q.some refl) ∙ pass_back)))
