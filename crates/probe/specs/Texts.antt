-- A text's way to its card: what is told of what it makes. Assumes nothing.
use Rattle.std.specs.Prelude.{ℕ, ◌+◌, Bool, cond, List, [], ◌∷◌, Option, Some, None, Result, Ok, Err, Float}
use Rattle.num.specs.Const.{c0_0}
use Rattle.cards.specs.Answers.{told}
use Rattle.cards.specs.Write.{write_reply, write_into}
use Rattle.cards.specs.declared.station.Station.{Station}
use Rattle.texts.specs.Mistakes.{number_of}
use Rattle.texts.specs.declared.numbers.Decimal.{Decimal}
use Rattle.texts.specs.declared.read.Misread.{Misread}

-- the card's length; or 256 and the number of the text's fault, else of the writing's refusal
abbrev pub answer_of : Result Station Misread → List ℕ → ℕ
answer_of (Ok s) out = told (write_reply s out).answer
answer_of (Err m) out = 256 + number_of m.fault.mistake

abbrev pub bytes_of : Result Station Misread → List ℕ → List ℕ
bytes_of (Ok s) out = write_into s out
bytes_of (Err m) out = out

-- where the fault is, and what it is about; zeros for no fault
abbrev pub place_of : Result Station Misread → List ℕ
place_of (Ok s) = 0 ∷ 0 ∷ 0 ∷ 0 ∷ []
place_of (Err m) = m.line ∷ m.fault.word ∷ m.fault.kind ∷ m.fault.place ∷ []

-- the binary32 nearest to a number, 0 for none
abbrev pub nearest_of : Option Decimal → Float
nearest_of None = c0_0
nearest_of (Some d) = d.nearest

-- 1 for yes, 0 for no
abbrev pub flag : Bool → ℕ
flag b = cond b 1 0
