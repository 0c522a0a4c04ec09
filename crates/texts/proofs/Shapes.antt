-- The places of a number's word, and what its being a number says of them. Assumes nothing.
use Prim.Native.Nat.{ℕ, ◌+◌, ◌-◌, ◌^◌, ◌≤◌}
use mathlib.Core.Bool.{Bool, true, false, ◌&&◌}
use mathlib.Core.List.{List, ◌++◌}
use mathlib.Core.Path.{◌≡◌, refl, sym, ap, ◌∙◌}
use native.Mathlib.Omega.{arith}
use borrow.Author.Tests.{leb-true, eqb-true}
use lib.Dec.{eqb, leb, ltb}
use lib.Ieee.{Float, binary32, round}
use lib.ListN.{length, drop, length-drop}
use lib.Seq.{length-take-le}
use Rattle.std.specs.Prelude.{Some, None}
use Rattle.num.specs.Laws.Bools.{both}
use Rattle.texts.specs.Numbers.{is_digit, worth, is_minus, start_of, behind_of, shape_of, is_number, is_plain, between, decimal_of, Ordered}
use Rattle.texts.specs.Words.{front}
use Rattle.texts.specs.declared.numbers.Shape.{Shape}

pub shaped : (word : List ℕ) (start point behind end : ℕ)
    → (start ≡ start_of word) × (start ≤ length word)
    → (point ≡ start + front is_digit (drop start word)) × (point ≤ length word)
    → (behind ≡ behind_of word point) × (point ≤ behind) × (behind ≤ length word)
    → (end ≡ behind + front is_digit (drop behind word)) × (end ≤ length word)
    → (record { start = start; point = point; behind = behind; end = end } ≡ shape_of word)
    × Ordered (record { start = start; point = point; behind = behind; end = end }) (length word)
unfolding shape_of
shaped word start point behind end a b c d = (
  rw (d.0, c.0, b.0, a.0) refl,
  record { first = omega (arith, b.0); second = c.1; third = omega (arith, d.0); last = d.1 },
)

-- what a number has
pub record Few (s : Shape) (long : ℕ) : Type 0 where
  pub all : s.end ≡ long
  pub before : s.point - s.start ≤ 7
  pub after : s.end - s.behind ≤ 150

pub few : (s : Shape) (long : ℕ) → is_number s long ≡ true → Few s long
unfolding is_number
few s long e =
    let before = s.point - s.start in
    let after = s.end - s.behind in
    let a = both (eqb s.end long) (leb before 7 && (leb after 150 && ltb 0 (before + after))) e in
    let b = both (leb before 7) (leb after 150 && ltb 0 (before + after)) a.1 in
    let c = both (leb after 150) (ltb 0 (before + after)) b.1 in
    record { all = eqb-true s.end long a.0; before = leb-true before 7 b.0; after = leb-true after 150 c.0 }

part_length : (from to : ℕ) (word : List ℕ) → from ≤ to → to ≤ length word → length (between from to word) ≡ to - from
part_length from to word l h = length-take-le (to - from) (drop from word) (omega (arith, length-drop from word))

module _ (word : List ℕ) (s : Shape) {r : Bool} (is : (s ≡ shape_of word) × Ordered s (length word)) (asked : r ≡ is_number s (length word)) where
  pub no_number : r ≡ false → None ≡ decimal_of word
  unfolding decimal_of
  no_number e = let none : is_number (shape_of word) (length word) ≡ false = ap (λ (t : Shape). is_number t (length word)) (sym is.0) ∙ sym asked ∙ e in rw none refl

  module _ (e : r ≡ true) where
    pub few-before : length (between s.start s.point word) ≤ 7
    few-before =
        let o = is.1 in
        omega (arith, (few s (length word) (sym asked ∙ e)).before, part_length s.start s.point word o.first (omega (arith, o.second, o.third, o.last)))

    after-length : length (between s.behind s.end word) ≡ s.end - s.behind
    after-length = part_length s.behind s.end word is.1.third is.1.last

    pub few-after : length (between s.behind s.end word) ≤ 150
    few-after = omega (arith, (few s (length word) (sym asked ∙ e)).after, after-length)

    pub numbered : (plain minus : Bool) (w : ℕ) (x : Float) → plain ≡ is_plain s (length word) → w ≡ worth 0 (between s.start s.point word) → minus ≡ is_minus word
        → x ≡ round binary32 minus (worth 0 (between s.start s.point word ++ between s.behind s.end word)) (10 ^ length (between s.behind s.end word))
        → Some (record { plain = plain; whole = w; nearest = x }) ≡ decimal_of word
    unfolding decimal_of
    numbered plain minus w x a b m d =
        let number : is_number (shape_of word) (length word) ≡ true = ap (λ (t : Shape). is_number t (length word)) (sym is.0) ∙ sym asked ∙ e in
        rw (a, b, d, m, after-length, is.0, number) refl
