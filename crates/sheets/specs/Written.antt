-- What is written on a sheet, as the card's reader finds it. Assumes nothing.
use Rattle.std.specs.Prelude.{ℕ, ◌+◌, ◌-◌, ◌*◌, ◌/◌, ◌<◌, ◌≡◌, List, take, drop}
use Rattle.cards.specs.Bits.{bit_at, value_at}
use Rattle.cards.specs.Step.{Reader, took}
use Rattle.sheets.specs.Events.{Event, events_at, sheet_at}

-- zero bits from p to the byte's end, as behind the last field of a card
abbrev pub Padded : ℕ → List ℕ → Type 0
Padded p sheet = value_at sheet p ((p + 7) / 8 * 8 - p) ≡ 0

-- what writing `a` from p on promises: the reader m takes it there, up to `next`; the bits before p stay; the last byte is padded, if it was before; the
-- bytes after it stay
pub record Writes {A : Type 0} (m : Reader A) (a : A) (p next : ℕ) (sheet sheet' : List ℕ) : Type 0 where
  pub reads : m sheet' p ≡ took a next
  pub before : (q : ℕ) → q < p → bit_at sheet' q ≡ bit_at sheet q
  pub padded : Padded p sheet → Padded next sheet'
  pub behind : drop ((next + 7) / 8) sheet' ≡ drop ((next + 7) / 8) sheet

-- what writing the event count promises, where the last of n events ends at p: the first r bytes are the sheet of these events, and of the others none is
-- touched but the first two
pub record Closes (n p r : ℕ) (sheet sheet' : List ℕ) : Type 0 where
  pub size : r ≡ (p + 7) / 8
  pub whole : (events : List Event) → events_at n sheet 16 ≡ took events p → Padded p sheet → sheet_at (take r sheet') 0 ≡ took events p
  pub behind : drop 2 sheet' ≡ drop 2 sheet
