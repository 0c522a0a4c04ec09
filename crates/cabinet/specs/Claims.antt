-- Two cabinets agree as their stations do: lists of cabinet calls are mapped to lists of the station's, call by call. The proof is in proofs/Agreement.antt.
-- Assumes nothing.
use Rattle.std.specs.Prelude.{ℕ, ◌*◌, ◌≡◌, Bool, false, not, cond, List, [], ◌∷◌, map, eqb, Float, length, take, drop}
use Rattle.cards.specs.Card.{accepted, open_of}
use Rattle.cards.specs.Written.{card_of}
use Rattle.cards.specs.declared.station.Station.{Station}
use Rattle.chain.specs.Agree.{opened, SameFirst, SameCall, Lends, Comparable, point}
use Rattle.chain.specs.Machine.{Call, frame, State, Seen, Done, lend, call}
use Rattle.cabinet.specs.Cabinet.{cabinet_reply}
use Rattle.cabinet.specs.Source.{source_stops, enlarged}

-- the cabinet's frame, with its source, its framebuffer, its curve and how many words of all else are lent; or a call of its station
pub data CabinetCall : Type 0 where
  show : (w h : ℕ) (picture colours words : List ℕ) (history floats ints : ℕ) (curve : List Float) → CabinetCall
  of_station : Call → CabinetCall

-- what a call gives and leaves
unfoldable pub made : CabinetCall → State → Done
made (show w h picture colours words lent floats ints curve) s =
    lend (3 * h * (3 * w)) lent s.history (cabinet_reply w h picture colours s.station words (take lent s.history) floats ints curve)
made (of_station c) s = call c s

unfoldable pub leaves : CabinetCall → State → State
leaves c s = record { station = (made c s).gives.station; history = (made c s).history }

unfoldable pub runs : State → List CabinetCall → State
runs s [] = s
runs s (c ∷ cs) = runs (leaves c s) cs

unfoldable pub gave : State → List CabinetCall → List Seen
gave s [] = []
gave s (c ∷ cs) = (made c s).gives ∷ gave (leaves c s) cs

-- whether the source is refused
abbrev pub bad_source : CabinetCall → Bool
bad_source (show w h picture colours words history floats ints curve) = not (eqb (source_stops w h (length picture) (length colours)) 0)
bad_source (of_station c) = false

-- the station's call that it is: a frame of the enlarged words; of a refused source, a frame that every station refuses
abbrev pub station_call : CabinetCall → Call
station_call (show w h picture colours words history floats ints curve) =
    cond (eqb (source_stops w h (length picture) (length colours)) 0) (frame (3 * w) (3 * h) (enlarged w h picture colours words) history floats ints curve)
    (frame 0 0 [] 0 0 0 [])
station_call (of_station c) = c

-- Calls that two cabinets share: frames of equal numbers, colours and sides, with framebuffers of one length, equal lengths of all else and curves with the
-- same first 256 words
pub data SameCabinet : CabinetCall → CabinetCall → Type 0 where
  shows : {w h history floats ints : ℕ} {picture colours words other : List ℕ} {curve curve' : List Float} → length words ≡ length other
      → SameFirst 256 curve curve'
      → SameCabinet (show w h picture colours words history floats ints curve) (show w h picture colours other history floats ints curve')
  calls : {c d : Call} → SameCall c d → SameCabinet (of_station c) (of_station d)

pub data Shared : List CabinetCall → List CabinetCall → Type 0 where
  none : Shared [] []
  more : {c d : CabinetCall} {cs ds : List CabinetCall} → SameCabinet c d → Shared cs ds → Shared (c ∷ cs) (d ∷ ds)

abbrev pub Cabinets-agree : Type 0
Cabinets-agree =
    -- two accepted cards that normalise alike, own history buffers with any words, and own lists of any cabinet calls, after which the stations are comparable
    (card other : List ℕ) (a b : Station) → open_of card ≡ accepted a → open_of other ≡ accepted b → card_of a ≡ card_of b
    → (H G : List ℕ) (own own' : List CabinetCall) →
    let s : State = runs (opened a H) own in
    let t : State = runs (opened b G) own' in
    Comparable s.station t.station
    -- a shared list, whose calls lend words of either own buffer
    → (cs ds : List CabinetCall) → Shared cs ds → Lends (length H) (map station_call cs) → Lends (length G) (map station_call cs) →
    let n : ℕ = point s t (map station_call cs) (map station_call ds) in
    -- the point is that of the stations, one for both, and from it on each answer, returned station and picture is equal
    (n ≡ point t s (map station_call ds) (map station_call cs)) × (drop n (gave s cs) ≡ drop n (gave t ds))
