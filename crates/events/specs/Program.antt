-- What program `station` prints for a whole input. Assumes nothing.
use Rattle.std.specs.Prelude.{ℕ, zero, suc, cond, List, [], ◌++◌, length, take, drop, replicate}
use Rattle.cards.specs.Answers.{ok, Reply}
use Rattle.cards.specs.Card.{open_of}
use Rattle.cards.specs.declared.station.Station.{Station}
use Rattle.events.specs.Events.{head_wanted, card_in, event_wanted}
use Rattle.events.specs.Play.{Outcome, open_text, played_of}

-- the bytes of the event at the start of an input, as far as the input has them
abbrev pub event_bytes : List ℕ → List ℕ
event_bytes input = take (event_wanted input) input

abbrev pub head_bytes : List ℕ → List ℕ
head_bytes input = take (head_wanted input) input

-- the lines of at most n events
unfoldable pub event_lines : ℕ → (input : List ℕ) → Station → (words past : List ℕ) → List ℕ
event_lines zero input s words past = []
event_lines (suc n) input s words past =
    let o : Outcome = played_of (event_bytes input) s words past in
    o.text ++ cond o.more (event_lines n (drop (event_wanted input) input) o.station o.words o.past) []

-- after the card; an input has no more events than bytes
unfoldable pub printed : List ℕ → List ℕ
printed input =
    let o : Reply = open_of (card_in (head_bytes input)) in
    open_text o.answer
    ++ cond (ok o.answer)
    (event_lines (length input) (drop (head_wanted input) input) o.station (replicate 1024 0) (replicate 8192 0)) []
