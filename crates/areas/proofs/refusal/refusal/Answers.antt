-- `areas::refusal::refusal` meets its contract: each test went as the definition's. Assumes nothing.
use mathlib.Core.Path.{sym}
use native.Mathlib.Omega.{arith}
use Rattle.num.specs.Laws.Refusals.{side_fine, area-fine}
use Rattle.areas.proofs.refusal.refusal.Goals as goal

-- two fine sides have gone by
pub overflow_mul-height : goal.overflow_mul-height
overflow_mul-height c = omega (arith, area-fine (side_fine _ (sym c.if-bad_side.ensures)).1 (side_fine _ (sym c.if-bad_side-2.ensures)).1)
