-- `areas::share::share` meets its contract: rectangle after rectangle. Assumes nothing.
use Prim.Native.Nat.{◌*◌}
use Rattle.areas.proofs.Sharing.{Shared}
use Rattle.areas.proofs.share.share.Given as goal

abbrev pub invariant-loop-k : goal.invariant-loop-k
invariant-loop-k l = Shared l.areas l.y l.sums (3 * l.k) l.initial.res l.res
