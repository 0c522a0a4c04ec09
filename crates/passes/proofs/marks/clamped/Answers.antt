-- `passes::marks::clamped` meets its contract: the word is below 2^24, so that the marks find room above it. Assumes nothing.
use Rattle.std.proofs.Common.{arith}
use Rattle.passes.specs.Private.{mark_clamped}
use Rattle.passes.proofs.Collected.{clamped_small}
use Rattle.passes.proofs.marks.clamped.Goals as goal

pub marked-requires : goal.marked-requires
marked-requires c = omega (arith, clamped_small c.args.c)

pub returns : goal.returns
unfolding mark_clamped
returns c = omega arith
