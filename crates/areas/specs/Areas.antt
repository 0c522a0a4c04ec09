-- The red, green and blue totals of rectangles of a picture, the number of words that they hold, and what is refused.
-- Assumes nothing.
use Rattle.std.specs.Prelude.{ℕ, zero, suc, ◌+◌, ◌*◌, ◌/◌, ◌%◌, Bool, false, not, ◌&&◌, ◌||◌, cond, List, leb, ltb, eqb, length, get_or, Result, Ok, Err}
use Rattle.num.specs.Refusals.{bad_side, unless, number_of}
use Rattle.num.specs.Rewrite.{rewrite}
unfoldable pub use Rattle.num.specs.Sums.{sum}
use Rattle.areas.specs.declared.area.Area.{Area}
use Rattle.num.specs.declared.refusal.Refusal.{Refusal}

-- whether p holds of a number below n
unfoldable pub some : ℕ → (ℕ → Bool) → Bool
some zero p = false
some (suc n) p = some n p || p n

-- ## Rectangles: left, top, width and height, four numbers of the list for each

abbrev pub count : List ℕ → ℕ
count areas = length areas / 4

abbrev pub area_at : List ℕ → ℕ → Area
area_at areas k = record {
  left = get_or areas (4 * k) 0;
  top = get_or areas (4 * k + 1) 0;
  wide = get_or areas (4 * k + 2) 0;
  high = get_or areas (4 * k + 3) 0;
}

-- whether the rectangle holds place x of row y, and whether one of them does
unfoldable pub holds : ℕ → ℕ → Area → Bool
holds x y a = (leb a.left x && ltb x (a.left + a.wide)) && (leb a.top y && ltb y (a.top + a.high))

abbrev pub held : List ℕ → ℕ → ℕ → Bool
held areas x y = some (count areas) (λ k. holds x y (area_at areas k))

-- ## The answer

-- red, green and blue of a word, by the numbers 0, 1, 2
unfoldable pub channel : ℕ → ℕ → ℕ
channel zero word = word / 65536 % 256
channel (suc zero) word = word / 256 % 256
channel (suc (suc c)) word = word % 256

-- a channel of a rectangle: the sum over its rows of the sum over their words
unfoldable pub total : List ℕ → ℕ → ℕ → Area → ℕ
total picture w c a =
    sum a.high (λ j. sum a.wide (λ i. channel c (get_or picture ((a.top + j) * w + (a.left + i)) 0)))

-- the places of the picture that a rectangle holds, each counted once
unfoldable pub words : ℕ → ℕ → List ℕ → ℕ
words w h areas = sum h (λ y. sum w (λ x. cond (held areas x y) 1 0))

-- three totals for each rectangle, in the order given; the rest stays
unfoldable pub totals_of : List ℕ → ℕ → List ℕ → List ℕ → List ℕ
totals_of picture w areas result =
    rewrite (3 * count areas) (λ i v. total picture w (i % 3) (area_at areas (i / 3))) result

-- ## What is refused, by the lengths of the picture and of the result: 0 for nothing

unfoldable pub bad_area : ℕ → ℕ → Area → Bool
bad_area w h a = ltb w (a.left + a.wide) || ltb h (a.top + a.high)

unfoldable pub bad_areas : ℕ → ℕ → List ℕ → Bool
bad_areas w h areas = some (count areas) (λ k. bad_area w h (area_at areas k))

unfoldable pub bad_list : ℕ → ℕ → List ℕ → ℕ → Bool
bad_list w h areas room =
    ltb 64 (count areas)
    || (not (eqb (length areas % 4) 0) || (ltb room (3 * count areas) || bad_areas w h areas))

unfoldable pub refusal_of : ℕ → ℕ → ℕ → List ℕ → ℕ → ℕ
refusal_of size w h areas room =
    cond (bad_side w || bad_side h) 8
    (cond (ltb size (h * w)) 9
    (cond (bad_list w h areas room) 19 0))

-- the number of words read, or a refusal's number
pub data Answer : Type 0 where
  Read : ℕ → Answer
  Refused : ℕ → Answer

-- what the code answers, so
abbrev pub answered : Result ℕ Refusal → Answer
answered (Ok n) = Read n
answered (Err k) = Refused (number_of k)

-- the answer, and the result as it is left
unfoldable pub judged : List ℕ → ℕ → ℕ → List ℕ → List ℕ → Answer × List ℕ
judged picture w h areas result =
    unless (refusal_of (length picture) w h areas (length result)) (λ k. (Refused k, result))
    (Read (words w h areas), totals_of picture w areas result)
