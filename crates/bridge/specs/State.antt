-- A station in the 134 bytes that a host lends: the length of its card, the card followed by zeros to 83 bytes, for each of the twelve places of the station
-- the width and the height that it holds by two bytes each, most significant first, the kind and the position of the switch that is asked for. Assumes
-- nothing.
use Rattle.std.specs.Prelude.{ℕ, ◌+◌, ◌-◌, ◌*◌, ◌/◌, ◌%◌, Bool, true, false, ◌&&◌, cond, List, [], ◌∷◌, ◌++◌, eqb, length, get_or, take, drop, replicate}
use Rattle.std.specs.Prelude.{Result, Ok, Err}
use Rattle.num.specs.Held.{Held, sized}
use Rattle.num.specs.declared.refusal.Refusal.{Refusal}
use Rattle.num.specs.declared.refusal.Refusal.TheVariants.{BadStation}
use Rattle.cards.specs.Answers.{ok}
use Rattle.chain.specs.Calls.{rechain, pend}
use Rattle.chain.specs.Chain.{with_held}
use Rattle.cards.specs.Alike.{chain_of}
use Rattle.cards.specs.Card.{open_of}
use Rattle.cards.specs.Normal.{good_station}
use Rattle.cards.specs.Written.{card_of}
use Rattle.cards.specs.declared.station.Pending.{Pending}
use Rattle.cards.specs.declared.station.Pending.TheVariants.{Nothing, Switch}
use Rattle.cards.specs.declared.station.Record.{Record}
use Rattle.cards.specs.declared.station.Station.{Station}

-- ## From a station to bytes

abbrev pub padded : List ℕ → List ℕ
padded card = card ++ replicate (83 - length card) 0

abbrev pub held_bytes : Held → List ℕ
held_bytes held = held.width / 256 ∷ held.width % 256 ∷ held.height / 256 ∷ held.height % 256 ∷ []

-- what each record holds, one after the other
unfoldable pub sizes_bytes : List Record → List ℕ
sizes_bytes [] = []
sizes_bytes (r ∷ rs) = held_bytes r.held ++ sizes_bytes rs

-- the kind of the switch that is asked for, 0 for none
abbrev pub kind_byte : Pending → ℕ
kind_byte Nothing = 0
kind_byte (Switch kind on) = kind

-- its position: on is 1, off is 0, as none is
abbrev pub position_byte : Pending → ℕ
position_byte Nothing = 0
position_byte (Switch kind on) = cond on 1 0

-- what a station keeps beside its card
abbrev pub kept_bytes : Station → List ℕ
kept_bytes s = sizes_bytes s.records ++ kind_byte s.pending ∷ position_byte s.pending ∷ []

abbrev pub laid : Station → List ℕ
laid s = length (card_of s) ∷ padded (card_of s) ++ kept_bytes s

-- a bad station is all zeros, which are no state: no card is empty
unfoldable pub encoded : Station → List ℕ
encoded s = cond (good_station s) (laid s) (replicate 134 0)

-- ## From bytes to a station

abbrev pub card_in : List ℕ → List ℕ
card_in b = take (get_or b 0 0) (drop 1 b)

-- what the four bytes at a place hold
abbrev pub held_in : (at : ℕ) → List ℕ → Held
held_in at b = sized (get_or b at 0 * 256 + get_or b (at + 1) 0) (get_or b (at + 2) 0 * 256 + get_or b (at + 3) 0)

-- each record holds what its four bytes say: those of the first are at that place, and the others follow
unfoldable pub hold_in : (at : ℕ) → List ℕ → List Record → List Record
hold_in at b [] = []
hold_in at b (r ∷ rs) = with_held (held_in at b) r ∷ hold_in (at + 4) b rs

-- so with the chain of a station; its places past n stay, so that bytes which say that one of them holds something are stray
abbrev pub hold_on : List ℕ → Station → Station
hold_on b s = rechain (hold_in 84 b (chain_of s)) s

-- no pass has kind 0
abbrev pub pending_of : (kind position : ℕ) → Pending
pending_of kind position = cond (eqb kind 0) Nothing (Switch kind (eqb position 1))

abbrev pub pending_in : List ℕ → Pending
pending_in b = pending_of (get_or b 132 0) (get_or b 133 0)

abbrev pub station_in : List ℕ → Station
station_in b = pend (pending_in b) (hold_on b (open_of (card_in b)).station)

abbrev pub same_bytes : List ℕ → List ℕ → Bool
same_bytes [] [] = true
same_bytes [] (y ∷ ys) = false
same_bytes (x ∷ xs) [] = false
same_bytes (x ∷ xs) (y ∷ ys) = eqb x y && same_bytes xs ys

-- the card is accepted, and its station with what it keeps is encoded as these bytes again: so a card that is not normalised, stray bytes, a size where
-- no pass can hold one and a switch of a pass that is not there make no state
unfoldable pub is_state : List ℕ → Bool
is_state b = ok (open_of (card_in b)).answer && same_bytes (encoded (station_in b)) b

-- the station of a state, or refusal 13
unfoldable pub decoded : List ℕ → Result Station Refusal
decoded b = cond (is_state b) (Ok (station_in b)) (Err BadStation)
