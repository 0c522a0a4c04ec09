-- `areas::block::read` meets its contract: word after word. Assumes nothing.
use Prim.Native.Nat.{◌+◌}
use lib.ListN.{get_or}
use Rattle.areas.specs.Private.{Changed, spread_of}
use Rattle.areas.proofs.block.read.Given as goal

abbrev pub invariant-loop-x : goal.invariant-loop-x
invariant-loop-x l = Changed l.from l.x (λ z v. v + spread_of (get_or l.picture (l.row + z) 0)) l.initial.columns l.columns
