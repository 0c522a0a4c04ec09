-- `card::compare::mixed` is safe: twelve passes at most, each of a depth of at most 255. Assumes nothing.
use Prim.Native.Nat.{◌*◌, ◌≤◌}
use lib.ListN.{length}
use Rattle.card.proofs.compare.mixed.Given as goal

abbrev pub invariant-loop-r : goal.invariant-loop-r
invariant-loop-r l = (length l.r-items ≤ 12) × (l.depths ≤ 255 * l.r-index)
