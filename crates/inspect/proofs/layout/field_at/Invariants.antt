-- `inspect::layout::field_at` meets its contract: record by record, until one holds the bit. Assumes nothing.
use Rattle.inspect.proofs.Walking.{Walked}
use Rattle.inspect.proofs.layout.field_at.Given as goal

abbrev pub invariant-loop-i : goal.invariant-loop-i
invariant-loop-i l = Walked l.card l.at l.n l.i l.p
