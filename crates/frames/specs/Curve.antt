-- A file that holds a curve: 256 numbers as binary32, the low byte first. Assumes nothing.
use Rattle.std.specs.Prelude.{ℕ, ◌+◌, ◌*◌, not, cond, List, eqb, Float, length, replicate, Result, Ok, Err}
use Rattle.std.specs.Float.{nan, binary32}
use Rattle.std.specs.Float.Ieee.{of_bits}
use Rattle.std.specs.Float.Ieee.Scale.{finite}
use Rattle.num.specs.Const.{c0_0}
use Rattle.num.specs.Refusals.{unless}
use Rattle.num.specs.Rewrite.{fill}
use Rattle.passes.specs.ColorCorrection.{good_curve}
use Rattle.raster.specs.Pixels.{byte_at}
use Rattle.frames.specs.declared.curve.NoCurve.{NoCurve}
use Rattle.frames.specs.declared.curve.NoCurve.TheVariants.{OtherLength, Outside}

-- the bit pattern of the four bytes from i on
abbrev pub pattern_at : List ℕ → ℕ → ℕ
pattern_at bytes i = byte_at bytes i + byte_at bytes (i + 1) * 256 + byte_at bytes (i + 2) * 65536 + byte_at bytes (i + 3) * 16777216

-- its number, where it is finite; an infinity is as little in 0..1 as a NaN is
unfoldable pub real_of : ℕ → Float
real_of bits = cond (finite (of_bits binary32 bits)) (of_bits binary32 bits) nan

abbrev pub word_at : List ℕ → ℕ → Float
word_at file k = real_of (pattern_at file (4 * k))

abbrev pub empty : List Float
empty = replicate 256 c0_0

unfoldable pub curve_in : List ℕ → List Float
curve_in file = fill (word_at file) empty

-- 0; or 1, another length than 1,024 bytes; or 2, a word that is not in 0..1
unfoldable pub curve_fault : List ℕ → ℕ
curve_fault file = cond (not (eqb (length file) 1024)) 1 (cond (not (good_curve (curve_in file))) 2 0)

abbrev pub number_of : NoCurve → ℕ
number_of OtherLength = 1
number_of Outside = 2

-- a curve, or a fault's number
pub data Loaded : Type 0 where
  Curve : List Float → Loaded
  Fault : ℕ → Loaded

-- what the code answers, so
abbrev pub loaded : Result (List Float) NoCurve → Loaded
loaded (Ok words) = Curve words
loaded (Err k) = Fault (number_of k)

-- the words of the file, where it has no fault
unfoldable pub loaded_of : List ℕ → Loaded
loaded_of file = unless (curve_fault file) Fault (Curve (curve_in file))
