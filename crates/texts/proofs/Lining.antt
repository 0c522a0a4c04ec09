-- A line, test after test: its settings one after another, and what it says. Assumes nothing.
use Prim.Native.Nat.{ℕ, suc, ◌+◌, ◌-◌, ◌*◌, ◌≤◌, ◌<◌}
use mathlib.Core.Bool.{Bool, true, false, cond}
use mathlib.Core.List.{List}
use mathlib.Core.Path.{◌≡◌, refl, sym, ap, ◌∙◌}
use native.Mathlib.Numerals.{add-one}
use native.Mathlib.Omega.{arith}
use borrow.Author.Tests.{eq-eqb, ne_eqb}
use Rattle.std.specs.Prelude.{Option, Some, None, Result, Ok, Err}
use Rattle.cards.specs.Records.{carded}
use Rattle.cards.specs.declared.station.Record.{Record}
use Rattle.inspect.specs.declared.settings.Setting.{Setting}
use Rattle.texts.specs.Lines.{kind_in, switch_in, ended, faulty, word_of_fault, fault_or, fault_from, switched, unless, pass_line, line_by, line_of}
use Rattle.texts.specs.Settings.{setting_in, arity, pass_in}
use Rattle.texts.specs.Words.{word_of}
use Rattle.texts.specs.declared.lines.Fault.{Fault}
use Rattle.texts.specs.declared.lines.Line.{Line}
use Rattle.texts.specs.declared.lines.Line.TheVariants.{Blank, Bare, Pass}
use Rattle.texts.specs.declared.mistake.Mistake.{Mistake}
use Rattle.texts.specs.declared.mistake.Mistake.TheVariants.{UnknownPass, NoSwitch, SpareWord}

-- ## The settings one after another

-- nothing was wrong before place j
pub record Unfaulted (line : List ℕ) (kind j : ℕ) : Type 0 where
  pub left : fault_from 4 line kind 0 ≡ fault_from (4 - j) line kind j
  pub within : j ≤ 4

pub unfaulted_none : (line : List ℕ) (kind : ℕ) → Unfaulted line kind 0
unfaulted_none line kind = record { left = refl; within = omega arith }

module _ {line : List ℕ} {kind j : ℕ} (t : Unfaulted line kind j) where
  here : j < 4 → (v : Result (Option Setting) Mistake) → v ≡ setting_in line kind j
      → fault_from 4 line kind 0 ≡ fault_or v kind j (fault_from (4 - (j + 1)) line kind (j + 1))
  unfolding fault_from
  here l v e =
      let one : 4 - j ≡ suc (4 - (j + 1)) = omega arith in
      t.left ∙ ap (λ (n : ℕ). fault_from n line kind j) one ∙ rw (e, add-one) refl

  pub unfaulted_more : (s : Option Setting) → j < 4 → Ok s ≡ setting_in line kind j → Unfaulted line kind (j + 1)
  unfaulted_more s l e = record { left = here l (Ok s) e; within = omega arith }

  pub is_fault : (m : Mistake) (w : ℕ) (f : Fault) → j < 4 → Err m ≡ setting_in line kind j → w ≡ word_of_fault m j → f ≡ faulty m w kind j
      → Some f ≡ fault_from 4 line kind 0
  is_fault m w f l e is h = ap Some (h ∙ ap (λ (v : ℕ). faulty m v kind j) is) ∙ sym (here l (Err m) e)

  pub unfaulted_all : 4 ≤ j → None ≡ fault_from 4 line kind 0
  unfolding fault_from
  unfaulted_all l = let none : 4 - j ≡ 0 = omega arith in sym (t.left ∙ ap (λ (n : ℕ). fault_from n line kind j) none)

-- ## A line with a pass

module _ (line : List ℕ) (kind : ℕ) {o : Option Bool} (asked : o ≡ switch_in (word_of line 1)) where
  abbrev spare : ℕ
  spare = 2 + 2 * arity kind

  abbrev settled : Option Fault → Bool → Result Line Fault
  settled g on = unless g (cond (ended line spare) (Ok (Pass (carded on (pass_in line kind)))) (Err (faulty SpareWord spare kind 0)))

  by_switch : switched o kind (settled (fault_from 4 line kind 0)) ≡ pass_line line kind
  unfolding pass_line
  by_switch = ap (λ (p : Option Bool). switched p kind (settled (fault_from 4 line kind 0))) asked

  pub no_switch : (f : Fault) → o ≡ None → f ≡ faulty NoSwitch 1 kind 0 → Err f ≡ pass_line line kind
  no_switch f e is = ap Err is ∙ ap (λ (p : Option Bool). switched p kind (settled (fault_from 4 line kind 0))) (sym e) ∙ by_switch

  module _ (on : Bool) (e : o ≡ Some on) {g : Option Fault} (first : g ≡ fault_from 4 line kind 0) where
    by_fault : settled g on ≡ pass_line line kind
    by_fault = ap (λ (f : Option Fault). settled f on) first ∙ ap (λ (p : Option Bool). switched p kind (settled (fault_from 4 line kind 0))) (sym e) ∙ by_switch

    pub wrong_setting : (f : Fault) → g ≡ Some f → Err f ≡ pass_line line kind
    wrong_setting f h = ap (λ (k : Option Fault). settled k on) (sym h) ∙ by_fault

    module _ (none : g ≡ None) {r : Bool} (end : r ≡ ended line spare) where
      by_end : cond r (Ok (Pass (carded on (pass_in line kind)))) (Err (faulty SpareWord spare kind 0)) ≡ pass_line line kind
      by_end =
          ap (λ (b : Bool). cond b (Ok (Pass (carded on (pass_in line kind)))) (Err (faulty SpareWord spare kind 0))) end
          ∙ ap (λ (k : Option Fault). settled k on) (sym none) ∙ by_fault

      pub too_many : (f : Fault) → r ≡ false → f ≡ faulty SpareWord spare kind 0 → Err f ≡ pass_line line kind
      too_many f h is = ap Err is ∙ rw h at by_end

      pub is_pass : (p : Record) → r ≡ true → p ≡ carded on (pass_in line kind) → Ok (Pass p) ≡ pass_line line kind
      is_pass p h is = ap (λ (q : Record). Ok (Pass q)) is ∙ rw h at by_end

-- ## A line

module _ (line : List ℕ) {r : Bool} (asked : r ≡ ended line 0) where
  pub blank : r ≡ true → Ok Blank ≡ line_of line
  unfolding line_of
  blank e = rw (sym asked ∙ e) refl

  module _ (b : r ≡ false) {o : Option ℕ} (kind-is : o ≡ kind_in (word_of line 0)) where
    by_kind : line_by o line ≡ line_of line
    unfolding line_of
    by_kind = rw (sym asked ∙ b) (ap (λ (k : Option ℕ). line_by k line) kind-is)

    pub unknown : (f : Fault) → o ≡ None → f ≡ faulty UnknownPass 0 0 0 → Err f ≡ line_of line
    unknown f e is = ap Err is ∙ ap (λ (k : Option ℕ). line_by k line) (sym e) ∙ by_kind

    module _ (kind : ℕ) (e : o ≡ Some kind) where
      known : line_by (Some kind) line ≡ line_of line
      known = ap (λ (k : Option ℕ). line_by k line) (sym e) ∙ by_kind

      pub passed : {t : Result Line Fault} → (kind ≡ 0 → ⊥) → t ≡ pass_line line kind → t ≡ line_of line
      passed n h = h ∙ rw (ne_eqb kind 0 n) at known

      module _ (z : kind ≡ 0) {q : Bool} (again : q ≡ ended line 1) where
        pub many : (f : Fault) → q ≡ false → f ≡ faulty SpareWord 1 0 0 → Err f ≡ line_of line
        many f h is = ap Err is ∙ rw (eq-eqb kind 0 z, sym again ∙ h) at known

        pub bare : q ≡ true → Ok Bare ≡ line_of line
        bare h = rw (eq-eqb kind 0 z, sym again ∙ h) at known
