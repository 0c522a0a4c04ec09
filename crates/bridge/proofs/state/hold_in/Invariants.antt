-- `bridge::state::hold_in` meets its contract: the loop's invariant is `Hold`. Assumes nothing.
use Rattle.bridge.proofs.Sizes.{Hold}
use Rattle.bridge.proofs.state.hold_in.Given as goal

abbrev pub invariant-loop-i : goal.invariant-loop-i
invariant-loop-i l = Hold l.state l.initial.records l.n l.i l.records
