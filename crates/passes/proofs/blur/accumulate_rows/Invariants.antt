-- `passes::blur::accumulate_rows` meets its contract: after k offsets each column has the definition's sum over the first k. Assumes nothing.
use Rattle.std.proofs.Common.{◌≡◌, ◌+◌, ◌-◌, ◌*◌, length}
use Rattle.num.specs.F32.{◌⊗◌}
use Rattle.passes.specs.Plain.Blur.{total}
use Rattle.passes.specs.Private.{cell}
use Rattle.num.specs.Sums.{sum}
use Rattle.passes.specs.Samples.{once}
use Rattle.passes.proofs.Sums.{Summed}
use Rattle.passes.proofs.blur.accumulate_rows.Given as goal

abbrev pub invariant-loop-k : goal.invariant-loop-k
invariant-loop-k l = Summed (λ x. total (λ i w. cell l.plane (length l.initial.acc) x i ⊗ w) l.height l.radius l.y) (2 * l.radius + 1) l.k l.initial.acc l.acc × (l.samples ≡ sum l.k (once l.height l.radius l.y))

abbrev pub decreases-loop-k : goal.decreases-loop-k
decreases-loop-k l = 2 * l.radius + 1 - l.k
