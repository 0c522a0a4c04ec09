-- The run sheet: how many events, the events, padding, packed as a card is and read by the card's reader. Assumes nothing.
use Rattle.std.specs.Prelude.{ℕ, zero, suc, ◌*◌, Bool, List, [], ◌∷◌, get_or, eqb}
use Rattle.cards.specs.Step.{Reader, ◌>>=◌, ◌>>◌, ret, refuse}
use Rattle.cards.specs.Bits.{field_at}
use Rattle.cards.specs.Card.{end_at}

-- a frame brings its words, height times width of them, whatever a station thinks of its size
pub data Event : Type 0 where
  frame : (w h : ℕ) (words : List ℕ) → Event
  reset : Event
  switch : (kind : ℕ) (on : Bool) → Event
  step : Event
  ask : (kind : ℕ) (on : Bool) → Event
  commit : Event

-- n words, 24 bits each
unfoldable pub words_at : ℕ → Reader (List ℕ)
words_at zero = ret []
words_at (suc n) = do
  word ← field_at 24
  words ← words_at n
  ret (word ∷ words)

unfoldable pub frame_at : Reader Event
frame_at = do
  w ← field_at 11
  h ← field_at 11
  words ← words_at (h * w)
  ret (frame w h words)

-- a kind and a position, of a switch that is made or asked for
unfoldable pub switch_at : (ℕ → Bool → Event) → Reader Event
switch_at made = do
  kind ← field_at 4
  on ← field_at 1
  ret (made kind (eqb on 1))

abbrev pub by_number : List (Reader Event)
by_number = frame_at ∷ ret reset ∷ switch_at switch ∷ ret step ∷ switch_at ask ∷ ret commit ∷ []

-- 6 and 7 are no events
unfoldable pub event_at : Reader Event
event_at = do
  number ← field_at 3
  get_or by_number number (refuse 20)

unfoldable pub events_at : ℕ → Reader (List Event)
events_at zero = ret []
events_at (suc n) = do
  event ← event_at
  events ← events_at n
  ret (event ∷ events)

-- n events, and nothing after them
unfoldable pub rest_at : ℕ → Reader (List Event)
rest_at n = do
  events ← events_at n
  end_at
  ret events

unfoldable pub sheet_at : Reader (List Event)
sheet_at = do
  n ← field_at 16
  rest_at n
