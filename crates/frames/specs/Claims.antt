-- What is proved of a file under a station, as a type: the proof is in proofs/Kept.antt. Assumes nothing.
use Rattle.std.specs.Prelude.{ℕ, ◌≡◌, List, Float}
use Rattle.cards.specs.declared.station.Station.{Station}
use Rattle.frames.specs.Frames.{Result, result, filtered_of}
use Rattle.frames.specs.Outcome.{Shown}

-- a file that shows no picture is left as it was, and so are the station and all else that is lent
abbrev pub UnshownKeeps : Type 0
UnshownKeeps =
    (s : Station) (file words past : List ℕ) (floats ints : ℕ) (curve : List Float) →
    let r : Result = filtered_of s file words past floats ints curve in
    ((clipped samples : ℕ) → r.outcome ≡ Shown clipped samples → ⊥) → r ≡ result r.outcome s file words past
