-- `areas::refusal::bad_areas` meets its contract: one rectangle after the other. Assumes nothing.
use mathlib.Core.Bool.{false}
use mathlib.Core.Path.{◌≡◌}
use Rattle.areas.specs.Areas.{some, bad_area, area_at}
use Rattle.areas.proofs.refusal.bad_areas.Given as goal

abbrev pub invariant-loop-k : goal.invariant-loop-k
invariant-loop-k l = some l.k (λ j. bad_area l.width l.height (area_at l.areas j)) ≡ false
