-- `passes::marks::unit` meets its contract: the word is below 2^24, so that the marks find room above it. Assumes nothing.
use Rattle.std.proofs.Common.{arith}
use Rattle.passes.specs.Private.{mark_unit}
use Rattle.passes.proofs.Collected.{unit-small}
use Rattle.passes.proofs.marks.unit.Goals as goal

pub marked-requires : goal.marked-requires
marked-requires c = omega (arith, unit-small c.args.c)

pub returns : goal.returns
unfolding mark_unit
returns c = omega arith
