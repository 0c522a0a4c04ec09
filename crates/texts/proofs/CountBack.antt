-- Counts and presets, as they are printed, are read back: each of them is tried. Assumes nothing.
use Prim.Native.Nat.{ℕ, zero, suc, ◌≤◌, ◌<◌}
use mathlib.Core.Bool.{Bool, true, false, ◌&&◌}
use mathlib.Core.List.{List}
use mathlib.Core.Path.{◌≡◌, refl, ap, ◌∙◌}
use native.Mathlib.Omega.{arith}
use borrow.Author.Tests.{eqb-true, eqb-false, lt-ltb, le-ltb}
use lib.Dec.{eqb}
use Rattle.std.specs.Prelude.{Option, Some, None, Ok}
use Rattle.num.specs.Laws.Bools.{both, false_true}
use Rattle.inspect.specs.declared.settings.Setting.TheVariants as S
use Rattle.texts.specs.Claims.{each}
use Rattle.texts.specs.Names.{preset_names, preset_name, found}
use Rattle.texts.specs.Numbers.{is_number, shape_of, decimal_of, worth}
use Rattle.texts.specs.Print.{whole_text}
use Rattle.texts.specs.Settings.{whole_of, preset_of}
use Rattle.texts.specs.Words.{front, is}
use Rattle.texts.specs.declared.numbers.Decimal.{Decimal}
use Rattle.texts.proofs.Lexing.{lettered, some, Word}

-- ## Tried one by one

-- each number below n is such
abbrev below : ℕ → (ℕ → Bool) → Bool
below zero such = true
below (suc n) such = such n && below n such

pub below-is : (n : ℕ) (such : ℕ → Bool) → below n such ≡ true → (v : ℕ) → v < n → such v ≡ true
below-is zero such e v l = absurd (omega (arith, l))
below-is (suc n) such e v l = go (eqb v n) refl (below-is n such (both (such n) (below n such) e).1 v)
  where
    go : (b : Bool) → eqb v n ≡ b → (v < n → such v ≡ true) → such v ≡ true
    go true f rest = ap such (eqb-true v n f) ∙ (both (such n) (below n such) e).0
    go false f rest = rest (omega (arith, l, eqb-false v n f))

pub word_of : (word : List ℕ) → each lettered word && some word ≡ true → Word word
word_of word e = let h = both (each lettered word) (some word) e in record { letters = h.0; full = h.1 }

-- ## Counts

abbrev is_count : Option Decimal → ℕ → Bool
is_count None v = false
is_count (Some d) v = d.plain && eqb d.whole v

count-is : (o : Option Decimal) (v : ℕ) → is_count o v ≡ true → (d : Decimal) × (o ≡ Some d) × (d.plain ≡ true) × (d.whole ≡ v)
count-is None v e = false_true e
count-is (Some d) v e = let h = both d.plain (eqb d.whole v) e in (d, refl, h.0, eqb-true d.whole v h.1)

abbrev count : ℕ → Bool
count v = is_count (decimal_of (whole_text v)) v

abbrev count_word : ℕ → Bool
count_word v = each lettered (whole_text v) && some (whole_text v)

counts : below 256 count ≡ true
unfolding whole_text decimal_of shape_of is_number front worth
counts = refl

count-words : below 256 count_word ≡ true
unfolding whole_text
count-words = refl

pub whole_word : (v : ℕ) → v < 256 → Word (whole_text v)
whole_word v l = word_of (whole_text v) (below-is 256 count_word count-words v l)

pub whole_back : (least most v : ℕ) → v < 256 → least ≤ v → v ≤ most → whole_of least most (decimal_of (whole_text v)) ≡ Ok (S.Whole v)
unfolding whole_of
whole_back least most v l a b =
    let h = count-is (decimal_of (whole_text v)) v (below-is 256 count counts v l) in
    rw (h.1, h.2, h.3, le-ltb v least a, le-ltb most v b) refl

-- ## Presets

abbrev preset : ℕ → Bool
preset p = eqb (found preset_names (preset_name p) 0) p

abbrev preset_word : ℕ → Bool
preset_word p = each lettered (preset_name p) && some (preset_name p)

presets : below 7 preset ≡ true
unfolding found is
presets = refl

preset-words : below 7 preset_word ≡ true
preset-words = refl

pub preset-word : (p : ℕ) → p < 7 → Word (preset_name p)
preset-word p l = word_of (preset_name p) (below-is 7 preset_word preset-words p l)

pub preset_back : (p : ℕ) → p < 7 → preset_of (preset_name p) ≡ Ok (S.Whole p)
unfolding preset_of
preset_back p l =
    let same : found preset_names (preset_name p) 0 ≡ p = eqb-true (found preset_names (preset_name p) 0) p (below-is 7 preset presets p l) in
    rw (same, lt-ltb p 7 l) refl
