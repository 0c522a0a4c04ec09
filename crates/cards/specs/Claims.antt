-- What is proved of cards, as types: the proofs are in proofs/Theorems.antt, OpensGood.antt, Survives.antt, Inside.antt and Longest.antt. Assumes nothing.
use Rattle.std.specs.Prelude.{ℕ, ◌*◌, ◌-◌, ◌≤◌, true, List, ◌↔◌, ◌≡◌, length, drop, replicate}
use Rattle.cards.specs.Alike.{Alike, chain_of}
use Rattle.cards.specs.Card.{unused, accepted, open_of, stopped_of}
use Rattle.cards.specs.Normal.{good_station}
use Rattle.cards.specs.Typed.{TypedChain, Unheld}
use Rattle.cards.specs.Written.{card_of}
use Rattle.cards.specs.declared.station.Pending.TheVariants.{Nothing}
use Rattle.cards.specs.declared.station.Station.{Station}

-- reading a written card gives the same station
abbrev pub WrittenBack : Type 0
WrittenBack = (card : List ℕ) (s : Station) → open_of card ≡ accepted s → open_of (card_of s) ≡ accepted s

-- two accepted cards are written as equal bytes exactly when the stations that they open are equal, and those are equal exactly when the order of the passes,
-- the switches and the limited settings are
abbrev pub WrittenAlike : Type 0
WrittenAlike =
    (card other : List ℕ) (s t : Station) → open_of card ≡ accepted s → open_of other ≡ accepted t
    → ((card_of s ≡ card_of t) ↔ (s ≡ t)) × ((s ≡ t) ↔ Alike s t)

-- normalising a normalised card changes nothing
abbrev pub NormalTwice : Type 0
NormalTwice = (card : List ℕ) (s t : Station) → open_of card ≡ accepted s → open_of (card_of s) ≡ accepted t → card_of t ≡ card_of s

-- an accepted card opens as a good station, and there are as many records as its n says
abbrev pub OpensGood : Type 0
OpensGood = (card : List ℕ) (s : Station) → open_of card ≡ accepted s → (good_station s ≡ true) × (length (chain_of s) ≡ s.n)

-- a good station that holds nothing in any record and of which nothing is asked, whose places past n are filled as at every opening, is read back from its card
abbrev pub Survives : Type 0
Survives =
    (s : Station) → good_station s ≡ true → TypedChain (chain_of s) → Unheld (chain_of s) → s.pending ≡ Nothing → length s.records ≡ 12
    → drop s.n s.records ≡ replicate (12 - s.n) unused → open_of (card_of s) ≡ accepted s

-- reading stops in the card or at its end
abbrev pub StoppedWithin : Type 0
StoppedWithin = (card : List ℕ) → stopped_of card ≤ 8 * length card

-- no card is longer than 83 bytes
abbrev pub Longest : Type 0
Longest = (s : Station) → good_station s ≡ true → length (card_of s) ≤ 83
