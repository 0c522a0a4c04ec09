-- Files, worked out: one for each refusal and some that are taken, at the limits. The list pairs what the definition gives with what it should give, and one
-- proof by computation holds it. Assumes nothing.
use Rattle.std.specs.Prelude.{ℕ, List, [], ◌∷◌, ◌++◌, refl, replicate}
use Rattle.num.specs.Cases.{Hold}
use Rattle.raster.specs.Step.{refuse_if}
use Rattle.raster.specs.Ppm.{empty, other_format, header_cut, bad_header, other_maximum, empty_picture, too_large, pixels_cut, left_over}
use Rattle.raster.specs.Ppm.{gap_of, digits_of, value_of, gap_in, digits_in, number_in, header_in, frame_in, Parsed, Frame, Refused, parse_of}

-- `0`, `1`, `2`, `254`, `255`, `1024`, `1025`
abbrev n0 : List ℕ
n0 = 48 ∷ []

abbrev n1 : List ℕ
n1 = 49 ∷ []

abbrev n2 : List ℕ
n2 = 50 ∷ []

abbrev n254 : List ℕ
n254 = 50 ∷ 53 ∷ 52 ∷ []

abbrev n255 : List ℕ
n255 = 50 ∷ 53 ∷ 53 ∷ []

abbrev n1024 : List ℕ
n1024 = 49 ∷ 48 ∷ 50 ∷ 52 ∷ []

abbrev n1025 : List ℕ
n1025 = 49 ∷ 48 ∷ 50 ∷ 53 ∷ []

-- `P6`, a newline, the width, a space, the height, a newline, the maximum, a newline, and pixels of n bytes
abbrev file : List ℕ → List ℕ → List ℕ → ℕ → List ℕ
file width height maximum n = 80 ∷ 54 ∷ 10 ∷ (width ++ 32 ∷ (height ++ 10 ∷ (maximum ++ 10 ∷ replicate n 0)))

abbrev pub parsed : List (Parsed × Parsed)
parsed =
    (parse_of 1 (file n1 n1 n255 3), Frame 1 1 11)
    -- `P6`, a comment of no byte up to a carriage return, a tab, `001`, byte 12, the comment `2#`, `2`, byte 11, `255`, a carriage return
    ∷ (parse_of 2 (80 ∷ 54 ∷ 35 ∷ 13 ∷ 9 ∷ 48 ∷ 48 ∷ 49 ∷ 12 ∷ 35 ∷ 50 ∷ 35 ∷ 10 ∷ 50 ∷ 11 ∷ 50 ∷ 53 ∷ 53 ∷ 13 ∷ replicate 6 0), Frame 1 2 19)
    ∷ (parse_of 9999 [], Refused empty)
    -- `P5`; `P`
    ∷ (parse_of 9999 (80 ∷ 53 ∷ 10 ∷ []), Refused other_format)
    ∷ (parse_of 9999 (80 ∷ []), Refused other_format)
    -- `P6`; `P6 #1`; `P6 1`; no white byte after the maximum
    ∷ (parse_of 9999 (80 ∷ 54 ∷ []), Refused header_cut)
    ∷ (parse_of 9999 (80 ∷ 54 ∷ 32 ∷ 35 ∷ 49 ∷ []), Refused header_cut)
    ∷ (parse_of 9999 (80 ∷ 54 ∷ 32 ∷ 49 ∷ []), Refused header_cut)
    ∷ (parse_of 9999 (80 ∷ 54 ∷ 32 ∷ 49 ∷ 32 ∷ 49 ∷ 32 ∷ n255), Refused header_cut)
    -- `P61`; `P6 x`; `P6 1x`; `#` after the maximum
    ∷ (parse_of 9999 (80 ∷ 54 ∷ 49 ∷ []), Refused bad_header)
    ∷ (parse_of 9999 (80 ∷ 54 ∷ 32 ∷ 120 ∷ []), Refused bad_header)
    ∷ (parse_of 9999 (80 ∷ 54 ∷ 32 ∷ 49 ∷ 120 ∷ []), Refused bad_header)
    ∷ (parse_of 9999 (80 ∷ 54 ∷ 32 ∷ 49 ∷ 32 ∷ 49 ∷ 32 ∷ 50 ∷ 53 ∷ 53 ∷ 35 ∷ []), Refused bad_header)
    -- the maximum before the size
    ∷ (parse_of 9999 (file n0 n1025 n254 0), Refused other_maximum)
    ∷ (parse_of 9999 (file n0 n1025 n255 0), Refused empty_picture)
    ∷ (parse_of 9999 (file n1 n0 n255 0), Refused empty_picture)
    -- a side of 1025, and one of 1024 with the largest count reached and passed; a side of 2 ^ 64 + 1
    ∷ (parse_of 9999 (file n1025 n1 n255 3075), Refused too_large)
    ∷ (parse_of 9999 (file n1 n1025 n255 3075), Refused too_large)
    ∷ (parse_of 1024 (file n1024 n1 n255 3072), Frame 1024 1 14)
    ∷ (parse_of 1024 (file n1 n1024 n255 3072), Frame 1 1024 14)
    ∷ (parse_of 1023 (file n1024 n1 n255 3072), Refused too_large)
    ∷ (
      parse_of 9999 (file (49 ∷ 56 ∷ 52 ∷ 52 ∷ 54 ∷ 55 ∷ 52 ∷ 52 ∷ 48 ∷ 55 ∷ 51 ∷ 55 ∷ 48 ∷ 57 ∷ 53 ∷ 53 ∷ 49 ∷ 54 ∷ 49 ∷ 55 ∷ []) n1 n255 3),
      Refused too_large,
    )
    ∷ (parse_of 4 (file n2 n2 n255 12), Frame 2 2 11)
    ∷ (parse_of 3 (file n2 n2 n255 12), Refused too_large)
    -- a byte too few, and one too many
    ∷ (parse_of 4 (file n2 n2 n255 11), Refused pixels_cut)
    ∷ (parse_of 4 (file n2 n2 n255 13), Refused left_over)
    ∷ []

pub parsed_hold : Hold parsed
unfolding parse_of frame_in header_in number_in gap_in digits_in gap_of digits_of value_of refuse_if
parsed_hold = refl
