-- `areas::totals` meets its contract: a refusal, or the walk. Assumes nothing.
use mathlib.Core.Path.{sym}
use Rattle.areas.proofs.Fine.{fine}
use Rattle.areas.proofs.totals.Goals as goal

pub walk-requires : goal.walk-requires
walk-requires c = fine _ _ _ _ _ (sym c.in_ok-refusal.ensures)
