-- `chain::samples::of_chain` meets its contract: none at first, one record's more with each turn, and all in the end. Assumes nothing.
use Rattle.chain.proofs.Taken.{Summed}
use Rattle.chain.proofs.samples.of_chain.Given as goal

abbrev pub invariant-loop-rec : goal.invariant-loop-rec
invariant-loop-rec l = Summed l.width l.height l.rec-index l.records l.sum
