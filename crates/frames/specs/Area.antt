-- A rectangle in words, LEFT,TOP,WIDTH,HEIGHT: what every byte string is read as, byte after byte. Assumes nothing.
use Rattle.std.specs.Prelude.{ℕ, ◌+◌, ◌-◌, ◌*◌, Bool, true, false, ◌&&◌, ◌||◌, cond, List, [], ◌∷◌, eqb, ltb, Result, Ok, Err}
use Rattle.raster.specs.Ppm.{is_digit}
use Rattle.frames.specs.declared.area.Named as code
use Rattle.frames.specs.declared.area.NotAnArea.{NotAnArea}
use Rattle.frames.specs.declared.area.NotAnArea.TheVariants.{NotFour, TooLarge}
use Rattle.frames.specs.declared.area.Reading.{Reading}

-- One digit more. A value above 65535 stays: it is still above 65535, and so refused.
abbrev pub grow : ℕ → ℕ → ℕ
grow v d = cond (ltb 65535 v) v (v * 10 + d)

-- nothing is read yet
abbrev pub unread : Reading
unread = record { first = 0; second = 0; third = 0; value = 0; commas = 0; digit = false }

abbrev pub with_digit : Reading → ℕ → Reading
with_digit r d = record {
  first = r.first;
  second = r.second;
  third = r.third;
  value = grow r.value d;
  commas = r.commas;
  digit = true;
}

abbrev pub next_number : Reading → Reading
next_number r = record {
  first = r.second;
  second = r.third;
  third = r.value;
  value = 0;
  commas = r.commas + 1;
  digit = false;
}

abbrev pub broken : Reading → Reading
broken r = record {
  first = r.first;
  second = r.second;
  third = r.third;
  value = r.value;
  commas = 4;
  digit = r.digit;
}

-- a digit; or a comma, at most the third, behind a digit; nothing else
unfoldable pub step_of : Reading → ℕ → Reading
step_of r b =
    cond (is_digit b) (with_digit r (b - 48))
    (cond (eqb b 44 && (r.digit && ltb r.commas 3)) (next_number r) (broken r))

unfoldable pub read_of : Reading → List ℕ → Reading
read_of r [] = r
read_of r (b ∷ text) = read_of (step_of r b) text

unfoldable pub is_large : Reading → Bool
is_large r = ltb 65535 r.first || (ltb 65535 r.second || (ltb 65535 r.third || ltb 65535 r.value))

-- left, top, width and height; or a fault: 1, not four numbers with a comma between two, or 2, a number above 65535
pub data Named : Type 0 where
  Area : ℕ → ℕ → ℕ → ℕ → Named
  Fault : ℕ → Named

abbrev pub number_of : NotAnArea → ℕ
number_of NotFour = 1
number_of TooLarge = 2

-- what the code answers, so
abbrev pub named : Result code.Named NotAnArea → Named
named (Ok a) = Area a.left a.top a.width a.height
named (Err k) = Fault (number_of k)

-- four numbers, the last of which has a digit; none of them above 65535
unfoldable pub named_by : Reading → Named
named_by r =
    cond (eqb r.commas 3 && r.digit)
    (cond (is_large r) (Fault 2) (Area r.first r.second r.third r.value))
    (Fault 1)

unfoldable pub named_of : List ℕ → Named
named_of text = named_by (read_of unread text)

-- words that begin with a digit are meant for a rectangle
unfoldable pub begins_of : List ℕ → Bool
begins_of [] = false
begins_of (b ∷ text) = is_digit b
