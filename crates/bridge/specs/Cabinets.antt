-- What the export that shows a source on a cabinet answers and leaves: as a frame does, once the source has passed. Assumes nothing.
use Rattle.std.specs.Prelude.{ℕ, ◌+◌, ◌*◌, List, Float, length}
use Rattle.num.specs.Refusals.{unless}
use Rattle.chain.specs.Calls.{float_room}
use Rattle.cabinet.specs.Cabinet.{cabinet_reply}
use Rattle.cabinet.specs.Source.{source_stops}
use Rattle.bridge.specs.Outcomes.{Shown, shown, framed_on, Leaves}

-- 21 comes before 13: the source is looked at before the bytes of the state
unfoldable pub cabinet_shown : (w h : ℕ) → (picture colours b words past : List ℕ) → (floats ints : ℕ) → (curve : List Float) → (old : List ℕ) → Shown
cabinet_shown w h picture colours b words past floats ints curve old =
    unless (source_stops w h (length picture) (length colours)) (λ k. shown (256 + k) b words past old)
    (framed_on (λ s. cabinet_reply w h picture colours s words past floats ints curve) b words past old)

abbrev pub ShowsSource : (w h : ℕ) (picture colours b words past : List ℕ) (floats : List Float) (ints : List ℕ) (curve : List Float) (reports : List ℕ)
    (number : ℕ) (b' words' past' : List ℕ) (floats' : List Float) (ints' reports' : List ℕ) → Type 0
ShowsSource w h picture colours b words past floats ints curve reports =
    Leaves (cabinet_shown w h picture colours b words past (length floats) (length ints) curve reports) (float_room (3 * w) (3 * h)) (3 * h * (3 * w))
    floats ints
