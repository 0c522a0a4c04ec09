-- Decimal digits, the last one first; the number that they write; what it is for digits and a point to be a binary32 exactly; and those digits,
-- that point and that sign. Assumes nothing.
use Rattle.std.specs.Prelude.{ℕ, zero, suc, ◌+◌, ◌*◌, ◌/◌, ◌%◌, ◌^◌, ◌<◌, ◌≤◌, ◌≡◌, Bool, true, false, List, [], ◌∷◌, Float, pos, negsuc, length, get_or}
use Rattle.std.specs.Float.{nan, inf, fin}
use Rattle.std.specs.Float.Ieee.Exact.{HasValue}
use Rattle.std.specs.Float.Ieee.Scale.{finite}
use Rattle.inspect.specs.declared.decimal.Point.{Point}

-- the number that the digits write
unfoldable pub number : List ℕ → ℕ
number [] = 0
number (d ∷ ds) = d + 10 * number ds

-- 150 digits: as many as any finite binary32 takes, with one before the point
pub record Digits (ds : List ℕ) : Type 0 where
  pub long : length ds ≡ 150
  pub each : (i : ℕ) → get_or ds i 0 < 10

-- The digits and the point are x: a finite x has the sign that is given, and its size is the number that the digits write over ten to the number of places.
pub record Exactly (x : Float) (r : Point) (ds : List ℕ) : Type 0 where
  pub digits : Digits ds
  pub few : r.places ≤ 149
  pub value : finite x ≡ true → HasValue x r.negative (number ds) (10 ^ r.places)

-- the last k digits of m
unfoldable pub spelled : ℕ → ℕ → List ℕ
spelled zero m = []
spelled (suc k) m = m % 10 ∷ spelled k (m / 10)

-- A finite binary32 is m * 2 ^ e with an odd m, or it is 0. With e = -p it is m / 2 ^ p, and so m * 5 ^ p / 10 ^ p: p digits stand behind the
-- point, and the last of them is not 0. With another e it is a whole number. What is not finite counts as 0, and as not negative.

-- the digits as one number, without the point
unfoldable pub whole_of : Float → ℕ
whole_of nan = 0
whole_of (inf s) = 0
whole_of (fin s m (pos k)) = m * 2 ^ k
whole_of (fin s m (negsuc k)) = m * 5 ^ suc k

-- how many of them stand behind the point
unfoldable pub places_of : Float → ℕ
places_of nan = 0
places_of (inf s) = 0
places_of (fin s m (pos k)) = 0
places_of (fin s m (negsuc k)) = suc k

unfoldable pub negative_of : Float → Bool
negative_of nan = false
negative_of (inf s) = false
negative_of (fin s m e) = s

abbrev pub digits_of : Float → List ℕ
digits_of x = spelled 150 (whole_of x)

abbrev pub point_of : Float → Point
point_of x = record { negative = negative_of x; places = places_of x }
