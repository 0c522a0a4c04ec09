-- Settings in words: each test of the code, and what the definition then gives. Assumes nothing.
use Prim.Native.Nat.{ℕ, ◌+◌, ◌*◌}
use mathlib.Core.Bool.{Bool, true, false, cond}
use mathlib.Core.List.{List}
use mathlib.Core.Path.{◌≡◌, refl, sym, ap, ◌∙◌}
use lib.Dec.{ltb}
use Rattle.std.specs.Prelude.{Option, Some, None, Result, Ok, Err}
use Rattle.num.specs.Laws.Bools.{false_true}
use Rattle.inspect.specs.declared.settings.Setting.{Setting}
use Rattle.inspect.specs.declared.settings.Setting.TheVariants as S
use Rattle.texts.specs.Names.{preset_names, setting_name, found, below}
use Rattle.texts.specs.Numbers.{decimal_of}
use Rattle.texts.specs.Settings.{slot_of, whole_of, preset_of, value_of, placed, setting_at, setting_in}
use Rattle.texts.specs.Words.{is, word_of}
use Rattle.texts.specs.declared.mistake.Mistake.{Mistake}
use Rattle.texts.specs.declared.mistake.Mistake.TheVariants.{OtherName}
use Rattle.texts.specs.declared.settings.Slot.{Slot}

-- a name that is found, or none
pub named : {A : Type 0} (n k f : ℕ) (make : ℕ → A) (other : A) → below n f ≡ Some k → make k ≡ cond (ltb f n) (make f) other
named n k f make other e = go (ltb f n) e
  where
    go : (t : Bool) → cond t (Some f) None ≡ Some k → make k ≡ cond t (make f) other
    go true e = ap make (let same : k ≡ f = cc in same)
    go false e = false_true (let z : false ≡ true = cc in z)

pub unnamed : {A : Type 0} (n f : ℕ) (make : ℕ → A) (other : A) → below n f ≡ None → other ≡ cond (ltb f n) (make f) other
unnamed n f make other e = go (ltb f n) e
  where
    go : (t : Bool) → cond t (Some f) None ≡ None → other ≡ cond t (make f) other
    go true e = false_true (let z : false ≡ true = cc in z)
    go false e = refl

module _ (word : List ℕ) {o : Option ℕ} (e : o ≡ below 7 (found preset_names word 0)) where
  pub preset-named : (p : ℕ) → o ≡ Some p → Ok (S.Whole p) ≡ preset_of word
  unfolding preset_of
  preset-named p f = named 7 p (found preset_names word 0) (λ (k : ℕ). Ok (S.Whole k)) (whole_of 0 6 (decimal_of word)) (sym e ∙ f)

  pub preset-numbered : o ≡ None → (r : Result Setting Mistake) → r ≡ whole_of 0 6 (decimal_of word) → r ≡ preset_of word
  unfolding preset_of
  preset-numbered f r h = h ∙ unnamed 7 (found preset_names word 0) (λ (k : ℕ). Ok (S.Whole k)) (whole_of 0 6 (decimal_of word)) (sym e ∙ f)

module _ (line : List ℕ) (kind j : ℕ) {o : Option Slot} (e : o ≡ slot_of kind j) where
  pub setting_none : o ≡ None → Ok None ≡ setting_in line kind j
  unfolding setting_in
  setting_none f = ap (λ (s : Option Slot). setting_at s kind j (word_of line (2 + 2 * j)) (word_of line (3 + 2 * j))) (sym f ∙ e)

  module _ (slot : Slot) (f : o ≡ Some slot) where
    by_slot : cond (is (word_of line (2 + 2 * j)) (setting_name kind j)) (placed (value_of slot (word_of line (3 + 2 * j)))) (Err OtherName) ≡ setting_in line kind j
    unfolding setting_in
    by_slot = ap (λ (s : Option Slot). setting_at s kind j (word_of line (2 + 2 * j)) (word_of line (3 + 2 * j))) (sym f ∙ e)

    pub setting_misnamed : is (word_of line (2 + 2 * j)) (setting_name kind j) ≡ false → Err OtherName ≡ setting_in line kind j
    setting_misnamed g = rw g at by_slot

    pub setting_valued : (r : Result Setting Mistake) → is (word_of line (2 + 2 * j)) (setting_name kind j) ≡ true → r ≡ value_of slot (word_of line (3 + 2 * j))
        → placed r ≡ setting_in line kind j
    setting_valued r g h = ap placed h ∙ rw g at by_slot
