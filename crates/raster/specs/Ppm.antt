-- A whole file that should be one frame as binary PPM (netpbm's P6): what it is read as, for every byte string. Assumes nothing.
use Rattle.std.specs.Prelude.{ℕ, suc, ◌+◌, ◌-◌, ◌*◌, Bool, false, cond, not, ◌&&◌, ◌||◌, List, [], ◌∷◌, eqb, leb, ltb, length, drop, Result, Ok, Err}
use Rattle.raster.specs.Pixels.{byte_at}
use Rattle.raster.specs.Step.{Step, took, refused, Reader, ◌>>=◌, ◌>>◌, ret, place, skip, byte_in, refuse_if}
use Rattle.raster.specs.declared.ppm as code
use Rattle.raster.specs.declared.ppm.NotAFrame.{NotAFrame}
use Rattle.raster.specs.declared.ppm.NotAFrame.TheVariants as Not

-- ## Refusals

-- no byte at all
abbrev pub empty : ℕ
empty = 1

-- not binary PPM: it does not begin with `P6`
abbrev pub other_format : ℕ
other_format = 2

-- the bytes end inside the header
abbrev pub header_cut : ℕ
header_cut = 3

-- no gap where one must be, or no digit, or no white byte after the maximum
abbrev pub bad_header : ℕ
bad_header = 4

-- the maximum is not 255
abbrev pub other_maximum : ℕ
other_maximum = 5

-- a side of 0
abbrev pub empty_picture : ℕ
empty_picture = 6

-- a side above 1024, or more pixels than are taken
abbrev pub too_large : ℕ
too_large = 7

-- fewer bytes than the pixels have
abbrev pub pixels_cut : ℕ
pixels_cut = 8

-- and more
abbrev pub left_over : ℕ
left_over = 9

-- more bytes than were read, of a file that is read up to a limit: `parse_of` never gives it
abbrev pub unread : ℕ
unread = 10

-- the number of a reason
abbrev pub number_of : NotAFrame → ℕ
number_of Not.Empty = empty
number_of Not.OtherFormat = other_format
number_of Not.HeaderCut = header_cut
number_of Not.BadHeader = bad_header
number_of Not.OtherMaximum = other_maximum
number_of Not.EmptyPicture = empty_picture
number_of Not.TooLarge = too_large
number_of Not.PixelsCut = pixels_cut
number_of Not.LeftOver = left_over
number_of Not.Unread = unread

-- ## Bytes

-- space; tab, newline, 11, 12, carriage return
abbrev pub is_white : ℕ → Bool
is_white b = eqb b 32 || (leb 9 b && leb b 13)

-- newline, carriage return
abbrev pub ends_line : ℕ → Bool
ends_line b = eqb b 10 || eqb b 13

-- `#`
abbrev pub opens_comment : ℕ → Bool
opens_comment b = eqb b 35

-- `0` to `9`
abbrev pub is_digit : ℕ → Bool
is_digit b = leb 48 b && leb b 57

-- ## A gap: white bytes and comments

-- whether a byte is part of a gap, and whether the one after it stands inside a comment, where it does itself or not
abbrev pub in_gap : Bool → ℕ → Bool
in_gap comment b = comment || (is_white b || opens_comment b)

abbrev pub in_comment : Bool → ℕ → Bool
in_comment comment b = cond comment (not (ends_line b)) (opens_comment b)

-- how many bytes of a gap stand at the front
unfoldable pub gap_of : Bool → List ℕ → ℕ
gap_of comment [] = 0
gap_of comment (b ∷ bytes) = cond (in_gap comment b) (suc (gap_of (in_comment comment b) bytes)) 0

-- ## A decimal number

-- One digit more. A value above 9999 stays, so that none grows past 99999: it is still above 9999, and so no side and no maximum that is taken.
abbrev pub grow : ℕ → ℕ → ℕ
grow v d = cond (ltb 9999 v) v (v * 10 + d)

-- how many digits stand at the front, and their value after v
unfoldable pub digits_of : List ℕ → ℕ
digits_of [] = 0
digits_of (b ∷ bytes) = cond (is_digit b) (suc (digits_of bytes)) 0

unfoldable pub value_of : ℕ → List ℕ → ℕ
value_of v [] = v
value_of v (b ∷ bytes) = cond (is_digit b) (value_of (grow v (b - 48)) bytes) v

-- ## The header

-- where the gap ends, and the digits, that stand at a place
abbrev pub gap_end : List ℕ → ℕ → ℕ
gap_end bytes at = at + gap_of false (drop at bytes)

abbrev pub digits_end : List ℕ → ℕ → ℕ
digits_end bytes at = at + digits_of (drop at bytes)

-- a gap, and digits: at least one byte, and the bytes go on after it
unfoldable pub gap_in : List ℕ → Reader (Unit {0})
gap_in bytes at =
    cond (leb (length bytes) (gap_end bytes at)) (refused header_cut)
    (cond (eqb (gap_end bytes at) at) (refused bad_header)
    (took tt (gap_end bytes at)))

unfoldable pub digits_in : List ℕ → Reader ℕ
digits_in bytes at =
    cond (leb (length bytes) (digits_end bytes at)) (refused header_cut)
    (cond (eqb (digits_end bytes at) at) (refused bad_header)
    (took (value_of 0 (drop at bytes)) (digits_end bytes at)))

unfoldable pub number_in : List ℕ → Reader ℕ
number_in bytes = do
  gap_in bytes
  digits_in bytes

-- `P6`
abbrev pub is_p6 : List ℕ → Bool
is_p6 bytes = leb 2 (length bytes) && (eqb (byte_at bytes 0) 80 && eqb (byte_at bytes 1) 54)

pub record Size : Type 0 where
  pub width : ℕ
  pub height : ℕ

abbrev pub size : ℕ → ℕ → Size
size w h = record { width = w; height = h }

-- There is a byte after the maximum: digits that end with the bytes are refused.
unfoldable pub header_in : List ℕ → Reader Size
header_in bytes = do
  refuse_if empty (eqb (length bytes) 0)
  refuse_if other_format (not (is_p6 bytes))
  skip 2
  width ← number_in bytes
  height ← number_in bytes
  maximum ← number_in bytes
  b ← byte_in bytes
  refuse_if bad_header (not (is_white b))
  refuse_if other_maximum (not (eqb maximum 255))
  ret (size width height)

-- ## The file

-- how many bytes the pixels have
abbrev pub bytes_in : Size → ℕ
bytes_in s = 3 * (s.height * s.width)

unfoldable pub frame_in : ℕ → List ℕ → Reader Size
frame_in most bytes = do
  s ← header_in bytes
  refuse_if empty_picture (eqb s.width 0 || eqb s.height 0)
  refuse_if too_large (ltb 1024 s.width || (ltb 1024 s.height || ltb most (s.height * s.width)))
  start ← place
  refuse_if pixels_cut (ltb (length bytes) (start + bytes_in s))
  refuse_if left_over (ltb (start + bytes_in s) (length bytes))
  ret s

-- width, height and where the pixels start; or a refusal by its number
pub data Parsed : Type 0 where
  Frame : ℕ → ℕ → ℕ → Parsed
  Refused : ℕ → Parsed

-- what the code answers, so
abbrev pub parsed : Result code.Frame.Frame NotAFrame → Parsed
parsed (Ok f) = Frame f.width f.height f.start
parsed (Err k) = Refused (number_of k)

abbrev pub parsed_of : Step Size → Parsed
parsed_of (took s start) = Frame s.width s.height start
parsed_of (refused k) = Refused k

-- width, height and where the pixels start, or why not
unfoldable pub parse_of : ℕ → List ℕ → Parsed
parse_of most bytes = parsed_of (frame_in most bytes 0)
