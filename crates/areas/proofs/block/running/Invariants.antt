-- `areas::block::running` meets its contract: column after column. Assumes nothing.
use Rattle.areas.proofs.Blocks.{Running}
use Rattle.areas.proofs.block.running.Given as goal

abbrev pub invariant-loop-t : goal.invariant-loop-t
invariant-loop-t l = Running l.columns l.from l.t l.red l.green l.blue l.sums
