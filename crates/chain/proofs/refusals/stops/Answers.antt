-- `chain::refusals::stops` meets its contract: past the test of the sides no product is large. Assumes nothing.
use Rattle.std.proofs.Common.{arith, mul-le-mul, sym, ◌∙◌}
use Rattle.num.specs.Laws.Refusals.{side_fine, area-fine}
use Rattle.chain.proofs.refusals.stops.Goals as goal

pub overflow_mul-count : goal.overflow_mul-count
overflow_mul-count c =
    let w = side_fine _ (sym c.bad_side.ensures ∙ c.if-bad_side.false) in
    let h = side_fine _ (sym c.bad_side-else-bad_side.ensures ∙ c.if-bad_side-2.false) in
    omega (arith, area-fine w.1 h.1)

pub overflow_mul-depth : goal.overflow_mul-depth
overflow_mul-depth c =
    let w = side_fine _ (sym c.bad_side.ensures ∙ c.if-bad_side.false) in
    let h = side_fine _ (sym c.bad_side-else-bad_side.ensures ∙ c.if-bad_side-2.false) in
    omega (arith, mul-le-mul c.depth.ensures.1 (area-fine w.1 h.1))

pub overflow_mul-count-2 : goal.overflow_mul-count-2
overflow_mul-count-2 c =
    let w = side_fine _ (sym c.bad_side.ensures ∙ c.if-bad_side.false) in
    let h = side_fine _ (sym c.bad_side-else-bad_side.ensures ∙ c.if-bad_side-2.false) in
    omega (arith, area-fine w.1 h.1)

pub overflow_mul-width : goal.overflow_mul-width
overflow_mul-width c = omega (arith, side_fine _ (sym c.bad_side.ensures ∙ c.if-bad_side.false))

pub overflow_add-count : goal.overflow_add-count
overflow_add-count c =
    let w = side_fine _ (sym c.bad_side.ensures ∙ c.if-bad_side.false) in
    let h = side_fine _ (sym c.bad_side-else-bad_side.ensures ∙ c.if-bad_side-2.false) in
    omega (arith, area-fine w.1 h.1, w.1)
