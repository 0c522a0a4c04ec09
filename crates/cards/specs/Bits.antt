-- The bits of a card, most significant first, and a field of k bits. Assumes nothing.
use Rattle.std.specs.Prelude.{ℕ, zero, suc, ◌+◌, ◌-◌, ◌*◌, ◌/◌, ◌%◌, ◌^◌, cond, List, length, get_or, leb}
use Rattle.cards.specs.Step.{took, refused, stop, Reader}

-- bit p of the bytes
abbrev pub bit_at : List ℕ → ℕ → ℕ
bit_at card p = get_or card (p / 8) 0 / 2 ^ (7 - p % 8) % 2

-- the number that k bits from p on write
unfoldable pub value_at : List ℕ → ℕ → ℕ → ℕ
value_at card p zero = 0
value_at card p (suc k) = value_at card p k * 2 + bit_at card (p + k)

-- a field of k bits: refused as torn where its bits run past the end
unfoldable pub field_at : ℕ → Reader ℕ
field_at k card p = cond (leb (p + k) (8 * length card)) (took (value_at card p k) (p + k)) (refused (stop 1 p))
