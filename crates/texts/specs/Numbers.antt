-- A word as a number: a sign or none, digits, a point or none, digits; and the binary32 nearest to it. Assumes nothing.
use Rattle.std.specs.Prelude.{ℕ, ◌+◌, ◌-◌, ◌*◌, ◌^◌, ◌≤◌, Bool, cond, ◌&&◌, ◌||◌, List, [], ◌∷◌, ◌++◌, eqb, leb, ltb, Float, length}
use Rattle.std.specs.Prelude.{get_or, take, drop, Option, Some, None}
use Rattle.std.specs.Float.{binary32}
use Rattle.std.specs.Float.Ieee.{round}
use Rattle.texts.specs.Words.{front}
use Rattle.texts.specs.declared.numbers.Decimal.{Decimal}
use Rattle.texts.specs.declared.numbers.Shape.{Shape}

abbrev pub is_digit : ℕ → Bool
is_digit b = leb 48 b && leb b 57

-- the value of a digit, 0 for any other byte
abbrev pub digit : ℕ → ℕ
digit b = cond (is_digit b) (b - 48) 0

-- the number that digits write behind those that are worth v
unfoldable pub worth : ℕ → List ℕ → ℕ
worth v [] = v
worth v (b ∷ bs) = worth (v * 10 + digit b) bs

-- plus or minus
abbrev pub is_sign : ℕ → Bool
is_sign b = eqb b 43 || eqb b 45

abbrev pub is_minus : List ℕ → Bool
is_minus word = eqb (get_or word 0 0) 45

abbrev pub start_of : List ℕ → ℕ
start_of word = cond (is_sign (get_or word 0 0)) 1 0

abbrev pub behind_of : List ℕ → ℕ → ℕ
behind_of word point = cond (eqb (get_or word point 0) 46) (point + 1) point

-- the places of a word: where its digits begin, where they end, where those behind the point begin, and where these end
unfoldable pub shape_of : List ℕ → Shape
shape_of word =
    let start = start_of word in
    let point = start + front is_digit (drop start word) in
    let behind = behind_of word point in
    record { start = start; point = point; behind = behind; end = behind + front is_digit (drop behind word) }

-- nothing else, at most seven digits before the point and 150 behind it, and some
unfoldable pub is_number : Shape → ℕ → Bool
is_number s long =
    let before = s.point - s.start in
    let after = s.end - s.behind in
    eqb s.end long && (leb before 7 && (leb after 150 && ltb 0 (before + after)))

-- digits alone
abbrev pub is_plain : Shape → ℕ → Bool
is_plain s long = eqb s.start 0 && eqb s.point long

-- the bytes from one place to another
abbrev pub between : ℕ → ℕ → List ℕ → List ℕ
between from to word = take (to - from) (drop from word)

abbrev pub value_in : Shape → List ℕ → Float
value_in s word =
    round binary32 (is_minus word) (worth 0 (between s.start s.point word ++ between s.behind s.end word)) (10 ^ (s.end - s.behind))

unfoldable pub decimal_of : List ℕ → Option Decimal
decimal_of word =
    let s : Shape = shape_of word in
    cond (is_number s (length word))
    (Some (record {
      plain = is_plain s (length word);
      whole = worth 0 (between s.start s.point word);
      nearest = value_in s word;
    }))
    None

-- the places stand in order
pub record Ordered (s : Shape) (long : ℕ) : Type 0 where
  pub first : s.start ≤ s.point
  pub second : s.point ≤ s.behind
  pub third : s.behind ≤ s.end
  pub last : s.end ≤ long
