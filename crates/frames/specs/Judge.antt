-- The totals of rectangles of the frame that a file holds as binary PPM. Assumes nothing.
use Rattle.std.specs.Prelude.{ℕ, ◌*◌, List, ◌++◌, length, drop, Result, Ok, Err}
use Rattle.num.specs.Refusals as papers
use Rattle.areas.specs.Areas.{Answer}
use Rattle.areas.specs.Areas as totals
use Rattle.raster.specs.Pixels.{unpacked}
use Rattle.raster.specs.Ppm.{number_of, Parsed, parse_of}
use Rattle.frames.specs.declared.NotTaken.{NotTaken}
use Rattle.frames.specs.declared.NotTaken.TheVariants as No

-- the totals are there, and so many words were read; the file is no frame that can be taken, by the number of specs/Ppm.antt of crate raster; the
-- rectangles are refused, by the number of the papers' tables
pub data Judged : Type 0 where
  Read : ℕ → Judged
  NoFrame : ℕ → Judged
  Refused : ℕ → Judged

-- what the code answers, so
abbrev pub judged : Result ℕ NotTaken → Judged
judged (Ok n) = Read n
judged (Err (No.NoFrame k)) = NoFrame (number_of k)
judged (Err (No.Refused k)) = Refused (papers.number_of k)

abbrev pub judged_of : Answer → Judged
judged_of (Answer.Read n) = Read n
judged_of (Answer.Refused k) = Refused k

-- with the framebuffer and the result as they are left
abbrev pub given : List ℕ → Answer × List ℕ → Judged × List ℕ × List ℕ
given words x = (judged_of x.0, words, x.1)

-- of a frame's pixels, three bytes each; its words are all that is lent of the framebuffer
abbrev pub measured_of : (w h : ℕ) → (pixels areas result : List ℕ) → Judged × List ℕ × List ℕ
measured_of w h pixels areas result =
    given (unpacked (h * w) pixels) (totals.judged (unpacked (h * w) pixels) w h areas result)

-- the other words of the framebuffer stay
abbrev pub among : ℕ → List ℕ → Judged × List ℕ × List ℕ → Judged × List ℕ × List ℕ
among count words x = (x.0, x.1 ++ drop count words, x.2)

abbrev pub by_frame : Parsed → (words file areas result : List ℕ) → Judged × List ℕ × List ℕ
by_frame (Parsed.Refused k) words file areas result = (NoFrame k, words, result)
by_frame (Parsed.Frame w h start) words file areas result = among (h * w) words (measured_of w h (drop start file) areas result)

-- a frame may have as many pixels as the framebuffer has words
unfoldable pub in_file : (words file areas result : List ℕ) → Judged × List ℕ × List ℕ
in_file words file areas result = by_frame (parse_of (length words) file) words file areas result
