-- `inspect::difference::chain_difference` meets its contract: record by record, until one chain ends. Assumes nothing.
use Rattle.inspect.proofs.Compared.{Walked}
use Rattle.inspect.proofs.difference.chain_difference.Given as goal

abbrev pub invariant-loop-i : goal.invariant-loop-i
invariant-loop-i l = Walked l.a l.b l.i
