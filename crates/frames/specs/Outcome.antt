-- What becomes of a file under a station, and how the code says it: refusals by their numbers. Assumes nothing.
use Rattle.std.specs.Prelude.{ℕ, Option, Some, None, Result, Ok, Err}
use Rattle.num.specs.Refusals as papers
use Rattle.passes.specs.declared.blur.Counts.{Counts}
use Rattle.raster.specs.Ppm.{number_of}
use Rattle.raster.specs.declared.ppm.NotAFrame.{NotAFrame}
use Rattle.frames.specs.declared.NotTaken.{NotTaken}
use Rattle.frames.specs.declared.NotTaken.TheVariants as No

-- it holds the picture, and so many channels were clipped, and so many samples taken; it is no frame that can be taken, by the number of
-- specs/Ppm.antt of crate raster; the station refused the frame, by the number of the papers' tables
pub data Outcome : Type 0 where
  Shown : ℕ → ℕ → Outcome
  NoFrame : ℕ → Outcome
  Refused : ℕ → Outcome

-- what the code answers, and how that is said here
abbrev pub Answer : Type 0
Answer = Result Counts NotTaken

abbrev pub outcome : Answer → Outcome
outcome (Ok c) = Shown c.clipped c.samples
outcome (Err (No.NoFrame k)) = NoFrame (number_of k)
outcome (Err (No.Refused k)) = Refused (papers.number_of k)

-- the number of a fault, 0 for none
abbrev pub fault_number : Option NotAFrame → ℕ
fault_number None = 0
fault_number (Some k) = number_of k
