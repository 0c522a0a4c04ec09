-- What is proved of texts, as types: the proof is in proofs/ReadBack.antt. Assumes nothing.
use Rattle.std.specs.Prelude.{ℕ, Bool, true, not, ◌&&◌, List, [], ◌∷◌, ◌++◌, ◌≡◌, eqb}
use Rattle.cards.specs.Alike.{chain_of}
use Rattle.cards.specs.Card.{accepted, open_of}
use Rattle.cards.specs.declared.station.Station.{Station}
use Rattle.texts.specs.Print.{text_of}
use Rattle.texts.specs.Read.{made, made_of}

-- whether each byte is such
abbrev pub each : (ℕ → Bool) → List ℕ → Bool
each such [] = true
each such (b ∷ bytes) = such b && each such bytes

-- a byte that ends no line
abbrev pub in_line : ℕ → Bool
in_line b = not (eqb b 10)

-- a text of whole lines, each of them `#` and then a comment
pub data Comments : List ℕ → Type 0 where
  none : Comments []
  line : (bytes : List ℕ) {rest : List ℕ} → each in_line bytes ≡ true → Comments rest → Comments (35 ∷ bytes ++ 10 ∷ rest)

-- the text that is printed for an accepted card makes the station that the card opens, and so the same normalised card, whatever comments stand before and
-- after the text
abbrev pub PrintedBack : Type 0
PrintedBack =
    (card : List ℕ) (s : Station) → open_of card ≡ accepted s → (head foot : List ℕ) → Comments head → Comments foot
    → made_of (head ++ text_of (chain_of s) ++ foot) ≡ made s
