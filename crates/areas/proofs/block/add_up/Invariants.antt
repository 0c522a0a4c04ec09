-- `areas::block::add_up` meets its contract: row after row. Assumes nothing.
use Rattle.areas.proofs.Blocks.{Rowing}
use Rattle.areas.proofs.block.add_up.Given as goal

abbrev pub invariant-loop-j : goal.invariant-loop-j
invariant-loop-j l = Rowing l.picture l.b l.from l.to l.j l.words l.initial.columns l.columns
