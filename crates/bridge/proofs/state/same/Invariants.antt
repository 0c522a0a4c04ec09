-- `bridge::state::same` meets its contract: byte after byte. Assumes nothing.
use Rattle.bridge.proofs.Bytes.{SameTo}
use Rattle.bridge.proofs.state.same.Given as goal

abbrev pub invariant-loop-i : goal.invariant-loop-i
invariant-loop-i l = SameTo l.i l.xs l.ys
