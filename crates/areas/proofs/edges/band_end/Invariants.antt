-- `areas::edges::band_end` meets its contract: one rectangle after the other. Assumes nothing.
use Rattle.areas.specs.Private.{Edges}
use Rattle.areas.proofs.edges.band_end.Given as goal

abbrev pub invariant-loop-k : goal.invariant-loop-k
invariant-loop-k l = Edges l.areas l.k l.y l.height l.end
