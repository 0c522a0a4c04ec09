-- What is proved of the first difference, as types: the proofs are in proofs/Theorems.antt. Assumes nothing.
use Rattle.std.specs.Prelude.{ℕ, List, None, ◌↔◌, ◌≡◌}
use Rattle.cards.specs.Card.{accepted, open_of}
use Rattle.cards.specs.Written.{card_of}
use Rattle.cards.specs.declared.station.Station.{Station}
use Rattle.inspect.specs.Difference.{difference_of}

-- two accepted cards have no difference exactly when they normalise to equal bytes
abbrev pub DifferenceAlike : Type 0
DifferenceAlike =
    (card other : List ℕ) (s t : Station) → open_of card ≡ accepted s → open_of other ≡ accepted t
    → ((difference_of s t ≡ None) ↔ (card_of s ≡ card_of t))

-- which card is named first does not matter
abbrev pub DifferenceSymmetric : Type 0
DifferenceSymmetric = (s t : Station) → difference_of s t ≡ difference_of t s
