-- `cards::fields::Cursor::field` meets its contract: the value is what the first i bits write. Assumes nothing.
use Rattle.std.specs.Prelude.{ℕ, suc, ◌+◌, ◌*◌, ◌^◌, ◌≤◌, ◌<◌, List}
use Rattle.std.proofs.Common.{arith, refl, add-one}
use lib.Pow.{pow_mono}
use Rattle.cards.specs.Bits.{value_at}
use Rattle.cards.proofs.Bits.{bit_at_lt, value_at_lt}
use Rattle.cards.proofs.fields.Cursor.field.Goals as goal

-- in a turn twice the value and one more fits 32 bits
below : (card : List ℕ) (at i width : ℕ) → i < width → width ≤ 32 → value_at card at i * 2 + 2 ≤ 2 ^ 32
below card at i width h w = omega (arith, value_at_lt card at i, pow_mono {i = suc i} {j = 32} (omega arith))

pub loop-i-init : goal.loop-i-init
unfolding value_at
loop-i-init c = (omega arith, refl)

pub overflow_mul-value : goal.overflow_mul-value
overflow_mul-value c = let r = c.args.self.now in
    omega (arith, below r.bytes.now r.at c.loop-i.i c.args.width c.loop-i-test.true c.requires.0)

pub overflow_add-value : goal.overflow_add-value
overflow_add-value c = let r = c.args.self.now in
    omega (arith, below r.bytes.now r.at c.loop-i.i c.args.width c.loop-i-test.true c.requires.0, bit_at_lt r.bytes.now (r.at + c.loop-i.i), c.bit.ensures)

pub loop-i-preserved : goal.loop-i-preserved
unfolding value_at
loop-i-preserved c = (omega arith, rw add-one (cc))
