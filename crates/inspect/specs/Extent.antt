-- A size in words, WIDTHxHEIGHT: what every byte string is read as, byte after byte. Assumes nothing.
use Rattle.std.specs.Prelude.{ℕ, ◌+◌, ◌*◌, ◌||◌, cond, List, [], ◌∷◌, eqb, ltb, Option, Some, None, option_and_then}
use Rattle.num.specs.Refusals.{bad_side}
use Rattle.inspect.specs.Hexadecimal.{digit_of}
use Rattle.inspect.specs.declared.extent.Extent.{Extent}
use Rattle.inspect.specs.declared.extent.Reading.{Reading}
use Rattle.inspect.specs.declared.extent.Reading.TheVariants.{Width, Height}

-- One digit more. A value above 1024 stays: it is still above 1024, and so refused.
abbrev pub grow : ℕ → ℕ → ℕ
grow v d = cond (ltb 1024 v) v (v * 10 + d)

-- nothing is read yet: a number without a digit is 0, which no side is
abbrev pub unread : Reading
unread = Width 0

abbrev pub with_digit : Reading → ℕ → Reading
with_digit (Width width) d = Width (grow width d)
with_digit (Height width height) d = Height width (grow height d)

-- after the first `x`; no size has another
abbrev pub crossed : Reading → Option Reading
crossed (Width width) = Some (Height width 0)
crossed (Height width height) = None

-- `0` to `9`, or the first `x`; nothing else
unfoldable pub step_of : Reading → ℕ → Option Reading
step_of r b = cond (ltb (digit_of b) 10) (Some (with_digit r (digit_of b))) (cond (eqb b 120) (crossed r) None)

unfoldable pub read_of : Option Reading → List ℕ → Option Reading
read_of r [] = r
read_of r (b ∷ text) = read_of (option_and_then (λ s. step_of s b) r) text

-- two numbers with an `x` between them, each a side that a picture may have
unfoldable pub extent_by : Option Reading → Option Extent
extent_by None = None
extent_by (Some (Width width)) = None
extent_by (Some (Height width height)) = cond (bad_side width || bad_side height) None (Some (record { width = width; height = height }))

unfoldable pub extent_of : List ℕ → Option Extent
extent_of text = extent_by (read_of (Some unread) text)
