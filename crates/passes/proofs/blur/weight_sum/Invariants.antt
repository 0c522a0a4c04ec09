-- `passes::blur::weight_sum` meets its contract: after k offsets the sum is the definition's over the first k. Assumes nothing.
use Rattle.std.proofs.Common.{◌≡◌, ℕ, ◌+◌, ◌*◌, ◌≤◌}
use lib.Ieee.{Float}
use Rattle.passes.specs.Plain.Blur.{total}
use Rattle.passes.proofs.blur.weight_sum.Given as goal

abbrev pub weights_to : ℕ → ℕ → ℕ → ℕ → Float
weights_to = total (λ i w. w)

abbrev pub invariant-loop-k : goal.invariant-loop-k
invariant-loop-k l = (l.k ≤ 2 * l.radius + 1) × (l.sum ≡ weights_to l.n l.radius l.x l.k)
