-- `sheets::write::put_bit` meets its contract: a byte is replaced by one with the bit in its place. Assumes nothing.
use Prim.Native.Nat.{◌-◌, ◌%◌}
use native.Mathlib.Omega.{arith}
use lib.Pow.{shr_le}
use Rattle.sheets.proofs.Writing.{bit_put}
use Rattle.sheets.proofs.write.put_bit.Goals as goal

pub overflow_mul-head : goal.overflow_mul-head
overflow_mul-head c = omega (arith, c.at.ensures.1, shr_le c.at.result (7 - c.args.p % 8))

pub overflow_add-head : goal.overflow_add-head
overflow_add-head c = omega (arith, c.requires.1, c.at.ensures.1, shr_le c.at.result (7 - c.args.p % 8))

pub returns : goal.returns
returns c = bit_put c.args.sheet.now c.args.p c.args.b c.at.result c.requires.0 c.requires.1 c.at.ensures
