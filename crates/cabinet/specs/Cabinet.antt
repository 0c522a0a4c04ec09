-- The cabinet's frame: the source's refusal, then the station's for the enlarged size; and only where both have passed the enlarged frame is written, and the
-- chain runs on it. Assumes nothing.
use Rattle.std.specs.Prelude.{ℕ, ◌*◌, List, Float, length}
use Rattle.num.specs.Refusals.{unless}
use Rattle.cards.specs.declared.station.Station.{Station}
use Rattle.chain.specs.Calls.{stops, Framed, refusing_frame, frame_reply}
use Rattle.cabinet.specs.Source.{source_stops, enlarged}

-- `floats` and `ints` are the lengths of the scratches
unfoldable pub cabinet_reply : (w h : ℕ) → (picture colours : List ℕ) → Station → (words past : List ℕ) → (floats ints : ℕ) → (curve : List Float) → Framed
cabinet_reply w h picture colours s words past floats ints curve =
    unless (source_stops w h (length picture) (length colours)) (refusing_frame s words past)
    (unless (stops s (3 * w) (3 * h) (length words) (length past) floats ints curve) (refusing_frame s words past)
    (frame_reply (3 * w) (3 * h) s (enlarged w h picture colours words) past floats ints curve))
