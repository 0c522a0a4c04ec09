-- `chain::refusals::depth` meets its contract: the sum of the first i depths. Assumes nothing.
use Rattle.std.specs.Prelude.{◌≡◌, ◌*◌, ◌≤◌, take}
use Rattle.chain.specs.Chain.{depth}
use Rattle.chain.proofs.refusals.depth.Given as goal

abbrev pub invariant-loop-r : goal.invariant-loop-r
invariant-loop-r l = (l.sum ≡ depth (take l.r-index l.records)) × (l.sum ≤ 255 * l.r-index)
