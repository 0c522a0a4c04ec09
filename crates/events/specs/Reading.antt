-- Why the program may read piece by piece: what is wanted, as far as the bytes that are there tell, never passes the event's end and never stops before
-- it; and bytes after the event are not looked at. The claims; their proofs are in proofs/Reading.antt and proofs/Unlooked.antt. Assumes nothing.
use Rattle.std.specs.Prelude.{ℕ, ◌≤◌, ◌≡◌, List, length, take}
use Rattle.cards.specs.declared.station.Station.{Station}
use Rattle.events.specs.Events.{head_wanted, card_in, event_wanted}
use Rattle.events.specs.Play.{played_of}
use Rattle.events.specs.Program.{event_bytes, head_bytes}

-- n bytes of the input are there, of those that `wanted` gives for the whole
pub record Piecewise (wanted : List ℕ → ℕ) : Type 0 where
  pub within : (input : List ℕ) (n : ℕ) → n ≤ length input → n ≤ wanted input → wanted (take n input) ≤ wanted input
  pub all : (input : List ℕ) (n : ℕ) → n ≤ length input → n ≤ wanted input → wanted (take n input) ≤ n → n ≡ wanted input

abbrev pub Pieces : Type 0
Pieces = Piecewise head_wanted × Piecewise event_wanted

abbrev pub Unlooked : Type 0
Unlooked =
    ((input : List ℕ) → card_in (head_bytes input) ≡ card_in input)
    × ((input : List ℕ) (s : Station) (words past : List ℕ) → played_of (event_bytes input) s words past ≡ played_of input s words past)
