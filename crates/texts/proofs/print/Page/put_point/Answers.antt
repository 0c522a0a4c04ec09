-- `texts::print::Page::put_point` meets its contract: a digit, and behind a point the others. Assumes nothing.
use native.Mathlib.Omega.{arith}
use lib.Dec.{lit≤}
use Rattle.texts.proofs.Printed.{point_none, point-some}
use Rattle.texts.proofs.Printing.{lays_then, lays_as}
use Rattle.texts.proofs.print.Page.put_point.Goals as goal

pub overflow_add-digits : goal.overflow_add-digits
overflow_add-digits c = omega (arith, c.requires.0.each c.args.places)

pub returns-else-places-ne0 : goal.returns-else-places-ne0
returns-else-places-ne0 c = lays_as _ 151 c.put.ensures (point_none _ _ c.if-places-ne0.false) (lit≤ tt)

pub returns-then-places-ne0 : goal.returns-then-places-ne0
returns-then-places-ne0 c = let text = lays_then (lays_then c.put.ensures c.put-then-places-ne0.ensures) c.digits_down.ensures in
    lays_as _ 151 text (point-some _ _ c.if-places-ne0.true) (omega (arith, c.requires.1))
