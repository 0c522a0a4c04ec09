-- The events of program `station`, as the events of a sheet, and what writing them promises. Assumes nothing.
use Rattle.std.specs.Prelude.{ℕ, zero, suc, ◌+◌, ◌*◌, ◌≤◌, ◌<◌, cond, List, [], ◌∷◌, ◌++◌, ◌≡◌, eqb, length, take, drop}
use Rattle.cards.specs.Step.{took}
use Rattle.events.specs.Events.{letter_in, width_in, height_in, count_in, kind_in, position_in, event_wanted, event_fault}
use Rattle.events.specs.Text.{F, R, S}
use Rattle.raster.specs.Pixels.{unpacked}
use Rattle.sheets.specs.Events.{Event, frame, reset, switch, step, event_at, sheet_at}
use Rattle.sheets.specs.Written.{Writes}
use Rattle.sheet.specs.declared.pack.Packed.{Packed}
use Rattle.sheet.specs.declared.pack.Put.{Put}

-- an event without fault, by its letter
unfoldable pub event_in : List ℕ → Event
event_in input =
    cond (eqb (letter_in input) F) (frame (width_in input) (height_in input) (unpacked (count_in input) (drop 3 input)))
    (cond (eqb (letter_in input) R) reset
    (cond (eqb (letter_in input) S) (switch (kind_in input) (eqb (position_in input) 1)) step))

-- where the event behind the first n begins, and these
unfoldable pub behind : ℕ → List ℕ → ℕ
behind zero input = 0
behind (suc n) input = behind n input + event_wanted (drop (behind n input) input)

unfoldable pub events_in : ℕ → List ℕ → List Event
events_in zero input = []
events_in (suc n) input = events_in n input ++ event_in (drop (behind n input) input) ∷ []

-- whatever becomes of an event, it has no more bytes than there are, and is no longer than a frame of 32 by 32
pub record Near (input : List ℕ) (p : ℕ) (r : Put) : Type 0 where
  pub within : r.bytes ≤ length input
  pub short : r.next ≤ p + 24601

-- one that is put from the bit p on: the program takes it, and it stands on the sheet
pub record Puts (input : List ℕ) (p : ℕ) (r : Put) (sheet sheet' : List ℕ) : Type 0 where
  pub good : event_fault input ≡ 0
  pub all : r.bytes ≡ event_wanted input
  pub writes : Writes event_at (event_in input) p r.next sheet sheet'
  pub inside : r.next ≤ 8 * length sheet'

-- all of them: the bytes are those of so many events, the program takes each, and the sheet is that of these
pub record Packs (input : List ℕ) (r : Packed) (sheet : List ℕ) : Type 0 where
  pub all : behind r.events input ≡ length input
  pub good : (k : ℕ) → k < r.events → event_fault (drop (behind k input) input) ≡ 0
  pub reads : sheet_at (take r.length sheet) 0 ≡ took (events_in r.events input) r.bits
