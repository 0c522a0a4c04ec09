-- `passes::persistence::total` meets its contract. Assumes nothing.
use Rattle.std.proofs.Common.{◌≡◌}
use Rattle.passes.specs.Plain.Persistence.{decay, total}
use Rattle.passes.proofs.persistence.total.Given as goal

abbrev pub invariant-loop : goal.invariant-loop
invariant-loop l = (l.sum ≡ total l.amount l.counter) × (l.weight ≡ decay l.amount l.counter)
