-- `areas::edges::span` meets its contract: one rectangle after the other. Assumes nothing.
use Rattle.areas.proofs.Search.{Spanning}
use Rattle.areas.proofs.edges.span.Given as goal

abbrev pub invariant-loop-k : goal.invariant-loop-k
invariant-loop-k l = Spanning l.areas l.k l.y l.width l.from l.to
