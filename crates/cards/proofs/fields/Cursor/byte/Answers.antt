-- `cards::fields::Cursor::byte` meets its contract. Assumes nothing.
use Rattle.std.proofs.Common.{arith, sym}
use lib.Pow.{pow_mono}
use Rattle.cards.proofs.Bits.{value_at_lt, taken}
use Rattle.cards.proofs.fields.Cursor.byte.Goals as goal

pub overflow_cast-result : goal.overflow_cast-result
overflow_cast-result c =
    let r = c.args.self.now in
    let v = taken c.args.width r.bytes.now r.at _ _ (sym c.in_ok-field.ensures.value) in
    omega (arith, v.0, value_at_lt r.bytes.now r.at c.args.width, pow_mono {i = c.args.width} {j = 8} (omega arith))
