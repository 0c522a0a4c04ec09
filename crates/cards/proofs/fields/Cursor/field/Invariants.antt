-- `cards::fields::Cursor::field` meets its contract: the value is what the first i bits write. Assumes nothing.
use Rattle.std.specs.Prelude.{◌≡◌, ◌≤◌}
use Rattle.cards.specs.Bits.{value_at}
use Rattle.cards.proofs.fields.Cursor.field.Given as goal

abbrev pub invariant-loop-i : goal.invariant-loop-i
invariant-loop-i l = (l.i ≤ l.width) × (l.value ≡ value_at l.self.bytes.now l.at l.i)
