-- `areas::refusal::bad_areas` meets its contract: one rectangle after the other. Assumes nothing.
use mathlib.Core.Path.{refl, sym, ap, ◌∙◌}
use Rattle.areas.specs.Areas.{some, bad_area, bad_areas, area_at}
use Rattle.areas.proofs.OneOf.{some_at}
use Rattle.areas.proofs.refusal.bad_areas.Goals as goal

pub loop-k-init : goal.loop-k-init
unfolding some
loop-k-init c = refl

pub returns-then-bad_area : goal.returns-then-bad_area
unfolding bad_areas
returns-then-bad_area c = let a = c.args in
    let leaves = ap (bad_area a.width a.height) (sym c.area_at.ensures.same) ∙ sym c.bad_area.ensures ∙ c.if-bad_area.true in
    sym (some_at _ (λ j. bad_area a.width a.height (area_at a.areas.now j)) _ c.loop-k-test.true leaves)
