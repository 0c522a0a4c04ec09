-- No more areas differ than were compared.
use Rattle.std.proofs.Common.{◌≤◌}
use Rattle.totals.proofs.shown.differences.Given as goal

abbrev pub invariant-loop-k : goal.invariant-loop-k
invariant-loop-k l = l.different ≤ l.k
