-- A rectangle's words, byte after byte. Assumes nothing.
use Prim.Native.Nat.{ℕ, ◌+◌, ◌≤◌, ◌<◌}
use mathlib.Core.Bool.{false, ◌||◌}
use mathlib.Core.List.{List, ◌∷◌}
use mathlib.Core.Path.{◌≡◌, sym, ap, ◌∙◌}
use native.Mathlib.Numerals.{add-one}
use borrow.Author.Tests.{ltb-false}
use lib.Dec.{ltb}
use lib.ListN.{length, get_or, drop, drop_of_length-le}
use lib.Seq.{drop-cons}
use Rattle.num.specs.Laws.Bools.{neither}
use Rattle.frames.specs.Area.{step_of, unread, read_of, is_large}
use Rattle.frames.specs.declared.area.Reading.{Reading}

-- what is read of all of them is what is read of those that are left
pub record Left (text : List ℕ) (i : ℕ) (r : Reading) : Type 0 where
  pub same : read_of unread text ≡ read_of r (drop i text)

module _ {text : List ℕ} {i : ℕ} {r : Reading} (t : Left text i r) where
  pub one_less : {q : Reading} → i < length text → q ≡ step_of r (get_or text i 0) → Left text (i + 1) q
  unfolding read_of
  one_less l e =
      record {
        same = t.same ∙ ap (read_of r) (drop-cons text i 0 l ∙ ap (λ (n : ℕ). get_or text i 0 ∷ drop n text) (sym (add-one i)))
            ∙ ap (λ (q : Reading). read_of q (drop (i + 1) text)) (sym e);
      }

  pub none_left : length text ≤ i → r ≡ read_of unread text
  unfolding read_of
  none_left l = sym (t.same ∙ ap (read_of r) (drop_of_length-le text {i = i} l))

-- no number is large
pub none_large : (r : Reading) → is_large r ≡ false → (r.first ≤ 65535) × (r.second ≤ 65535) × (r.third ≤ 65535) × (r.value ≤ 65535)
unfolding is_large
none_large r e =
    let first = neither (ltb 65535 r.first) (ltb 65535 r.second || (ltb 65535 r.third || ltb 65535 r.value)) e in
    let second = neither (ltb 65535 r.second) (ltb 65535 r.third || ltb 65535 r.value) first.1 in
    let third = neither (ltb 65535 r.third) (ltb 65535 r.value) second.1 in
    (ltb-false 65535 _ first.0, ltb-false 65535 _ second.0, ltb-false 65535 _ third.0, ltb-false 65535 _ third.1)
