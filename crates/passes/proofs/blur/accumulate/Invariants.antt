-- `passes::blur::accumulate` meets its contract: after k offsets each place has the definition's sum over the first k. Assumes nothing.
use Rattle.std.proofs.Common.{◌≡◌, ◌+◌, ◌-◌, ◌*◌, length}
use Rattle.num.specs.F32.{◌⊗◌}
use Rattle.passes.specs.Plain.Blur.{total}
use Rattle.passes.specs.Private.{at}
use Rattle.passes.proofs.Counted.{upto}
use Rattle.passes.proofs.Sums.{Summed}
use Rattle.passes.proofs.blur.accumulate.Given as goal

abbrev pub invariant-loop-k : goal.invariant-loop-k
invariant-loop-k l = Summed (total (λ i w. at l.src i ⊗ w) (length l.src) l.radius) (2 * l.radius + 1) l.k l.initial.acc l.acc × (l.samples ≡ upto (length l.src) l.radius l.k)

abbrev pub decreases-loop-k : goal.decreases-loop-k
decreases-loop-k l = 2 * l.radius + 1 - l.k
