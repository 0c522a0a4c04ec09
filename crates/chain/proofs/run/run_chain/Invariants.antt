-- `chain::run::run_chain` meets its contract. The invariant, Lending's `Running`, says that the first i records have had their turns. Assumes nothing.
use Rattle.std.specs.Prelude.{length}
use Rattle.chain.proofs.Lending.{Running}
use Rattle.chain.proofs.run.run_chain.Given as goal

abbrev pub invariant-loop-rec : goal.invariant-loop-rec
invariant-loop-rec l =
    Running l.size l.rec-index (length l.initial.history) l.at l.curve l.initial.records l.initial.frame l.initial.history
    l.records l.frame l.sum.clipped l.sum.samples l.history l.floats l.ints
