-- The padding of a card that has just the bytes for it is one field, which is not torn. Assumes nothing.
use Rattle.std.specs.Prelude.{ℕ, ◌+◌, ◌-◌, ◌*◌, ◌/◌, ◌≡◌, List, length, eqb, Result, Ok}
use Rattle.std.proofs.Common.{arith, ◌∙◌, eq-eqb}
use Rattle.cards.specs.Step.{step}
use Rattle.cards.specs.Bits.{value_at, field_at}
use Rattle.cards.specs.Card.{ends_at}
use Rattle.cards.specs.Laws.Steps.{answered}
use Rattle.cards.specs.declared.fields.Stop.{Stop}
use Rattle.cards.proofs.Bits.{whole}

module _ (card : List ℕ) (at : ℕ) (e : length card ≡ (at + 7) / 8) where
  abbrev pub rest : ℕ
  rest = (at + 7) / 8 * 8 - at

  pub padding : (r : Result ℕ Stop) (n : ℕ) → step r n ≡ field_at rest card at → r ≡ Ok (value_at card at rest)
  padding r n h = answered r n _ _ (h ∙ whole rest card at (omega arith))

  pub ends_by : ends_at card at ≡ eqb (value_at card at rest) 0
  unfolding ends_at
  ends_by = simp (eq-eqb (length card) ((at + 7) / 8) e)
