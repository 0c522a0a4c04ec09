-- A text: its lines one after another, each without its comment; the station that it makes, or its first fault. Assumes nothing.
use Rattle.std.specs.Prelude.{ℕ, suc, ◌+◌, Bool, true, false, not, cond, ◌&&◌, List, [], ◌∷◌, Result, Ok, Err, eqb, leb, set, take}
use Rattle.cards.specs.Card.{station_of}
use Rattle.cards.specs.Normal.{good_station}
use Rattle.cards.specs.Passes.{kind_of}
use Rattle.cards.specs.declared.station.Pending.TheVariants as P
use Rattle.cards.specs.declared.station.Record.{Record}
use Rattle.cards.specs.declared.station.Station.{Station}
use Rattle.texts.specs.Lines.{faulty, line_of}
use Rattle.texts.specs.Words.{front}
use Rattle.texts.specs.declared.lines.Fault.{Fault}
use Rattle.texts.specs.declared.lines.Line.{Line}
use Rattle.texts.specs.declared.lines.Line.TheVariants.{Blank, Bare, Pass}
use Rattle.texts.specs.declared.mistake.Mistake.TheVariants.{PassOutOfPlace, TooManyPasses, PassBesideNone, NoPass}
use Rattle.texts.specs.declared.read.Draft.{Draft}
use Rattle.texts.specs.declared.read.Misread.{Misread}

-- the lines with a byte before the first of them
abbrev pub before : ℕ → List (List ℕ) → List (List ℕ)
before b [] = (b ∷ []) ∷ []
before b (line ∷ lines) = (b ∷ line) ∷ lines

-- what stands between the ends of lines
unfoldable pub lines_of : List ℕ → List (List ℕ)
lines_of [] = []
lines_of (b ∷ bs) = cond (eqb b 10) ([] ∷ lines_of bs) (before b (lines_of bs))

-- a line up to its comment
abbrev pub in_text : ℕ → Bool
in_text b = not (eqb b 35)

unfoldable pub uncommented : List ℕ → List ℕ
uncommented line = take (front in_text line) line

-- nothing is read yet: no pass, and it was not said that there is none
abbrev pub begun : Draft
begun = record { station = station_of []; bare = false }

abbrev pub appended : Station → Record → Station
appended s r = record { records = set s.records s.n r; n = s.n + 1; pending = P.Nothing }

-- one pass more: beside `none`; where there are twelve; where it may not stand there
unfoldable pub with_pass : Draft → Record → Result Draft Fault
with_pass d r =
    let kind = kind_of r.pass in
    cond d.bare (Err (faulty PassBesideNone 0 kind 0))
    (cond (leb 12 d.station.n) (Err (faulty TooManyPasses 0 kind 0))
    (cond (good_station (appended d.station r)) (Ok (record { station = appended d.station r; bare = false })) (Err (faulty PassOutOfPlace 0 kind 0))))

-- that there is no pass: where there is one
unfoldable pub with_none : Draft → Result Draft Fault
with_none d = cond (eqb d.station.n 0) (Ok (record { station = d.station; bare = true })) (Err (faulty PassBesideNone 0 0 0))

abbrev pub with_line : Draft → Result Line Fault → Result Draft Fault
with_line d (Ok Blank) = Ok d
with_line d (Ok Bare) = with_none d
with_line d (Ok (Pass r)) = with_pass d r
with_line d (Err f) = Err f

abbrev pub made : Station → Result Station Misread
made s = Ok s

abbrev pub failed : ℕ → Fault → Result Station Misread
failed i f = Err (record { line = i; fault = f })

-- at the end: where neither a pass nor `none` was read
unfoldable pub finished : ℕ → Draft → Result Station Misread
finished i d = cond (eqb d.station.n 0 && not d.bare) (failed i (faulty NoPass 0 0 0)) (made d.station)

-- after line i
abbrev pub read_on : ℕ → Result Draft Fault → (Draft → Result Station Misread) → Result Station Misread
read_on i (Ok d) rest = rest d
read_on i (Err f) rest = failed i f

-- the lines from line i on, counted from 0
unfoldable pub read_lines : ℕ → Draft → List (List ℕ) → Result Station Misread
read_lines i d [] = finished i d
read_lines i d (line ∷ lines) = read_on i (with_line d (line_of (uncommented line))) (λ e. read_lines (suc i) e lines)

unfoldable pub made_of : List ℕ → Result Station Misread
made_of text = read_lines 0 begun (lines_of text)
