-- `sheets::write::put` meets its contract: bit after bit. Assumes nothing.
use mathlib.Core.Path.{refl, ◌∙◌}
use native.Mathlib.Omega.{arith}
use Rattle.sheets.proofs.Writing.{no_bit, bit_more, all_bits}
use Rattle.sheets.proofs.write.put.Goals as goal

pub loop-i-init : goal.loop-i-init
loop-i-init c = (omega arith, refl, no_bit c.args.width c.args.v c.args.p c.requires.1 c.args.sheet.now (omega (arith, c.requires.2)))

pub put_bit-requires : goal.put_bit-requires
put_bit-requires c = (omega (arith, c.requires.2, c.loop-i.invariant.1), omega arith)

pub loop-i-preserved : goal.loop-i-preserved
loop-i-preserved c = let kept = c.put_bit.auto.sheet ∙ c.loop-i.invariant.1 in (
  omega arith,
  kept,
  bit_more c.args.width c.args.v c.args.p c.requires.1 c.loop-i-test.true (omega (arith, c.requires.2, kept)) c.loop-i.invariant.2 c.put_bit.ensures,
)

pub shape_of-sheet : goal.shape_of-sheet
shape_of-sheet c = c.loop-i.invariant.1

pub returns : goal.returns
returns c = (all_bits c.args.width c.args.v c.args.p c.requires.1 (omega (arith, c.loop-i.invariant.0)) c.loop-i.invariant.2, refl)
