-- `bridge::state::put_sizes` meets its contract: the loop's invariant is `Put`. Assumes nothing.
use Rattle.bridge.proofs.Sizes.{Put}
use Rattle.bridge.proofs.state.put_sizes.Given as goal

abbrev pub invariant-loop-i : goal.invariant-loop-i
invariant-loop-i l = Put l.records l.i l.part
