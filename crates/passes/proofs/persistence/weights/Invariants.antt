-- `passes::persistence::weights` meets its contract. Assumes nothing.
use Rattle.std.proofs.Common.{◌≡◌}
use Rattle.passes.specs.Plain.Persistence.{decay, weight}
use Rattle.num.specs.Laws.Rewrite.{Rewritten}
use Rattle.passes.proofs.persistence.weights.Given as goal

abbrev pub invariant-loop-share : goal.invariant-loop-share
invariant-loop-share l = Rewritten l.share-index (λ k _. weight l.amount l.sum k) l.initial.out l.out × (l.weight ≡ decay l.amount l.share-index)
