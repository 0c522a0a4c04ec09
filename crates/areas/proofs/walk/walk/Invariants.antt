-- `areas::walk::walk` meets its contract: band after band. Assumes nothing.
use Prim.Native.Nat.{◌-◌}
use Rattle.areas.specs.Private.{Lent}
use Rattle.areas.proofs.Bands.{Walking}
use Rattle.areas.proofs.walk.walk.Given as goal

abbrev pub invariant-loop-y : goal.invariant-loop-y
invariant-loop-y l = (Walking l.picture l.width l.height l.areas l.initial.res l.y l.words l.res) × Lent l.ends l.columns l.sums

abbrev pub decreases-loop-y : goal.decreases-loop-y
decreases-loop-y l = l.height - l.y
