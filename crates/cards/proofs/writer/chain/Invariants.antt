-- `cards::writer::chain` meets its contract: the loop's invariant is `Laying`. Assumes nothing.
use Rattle.cards.specs.Written.{chain_bits}
use Rattle.cards.specs.Sheet.{lay, blank}
use Rattle.cards.proofs.Laying.{Laying}
use Rattle.cards.proofs.writer.chain.Given as goal

abbrev pub invariant-loop-r : goal.invariant-loop-r
invariant-loop-r l = Laying l.records (lay blank (chain_bits l.records)) l.sheet l.r-index
