-- `areas::marks::mark_each` meets its contract: one rectangle after the other. Assumes nothing.
use Rattle.areas.specs.Private.{Marks}
use Rattle.areas.proofs.marks.mark_each.Given as goal

abbrev pub invariant-loop-k : goal.invariant-loop-k
invariant-loop-k l = Marks l.areas l.k l.y l.initial.ends l.ends
