-- `texts::print::Page::put_sign` meets its contract: a sign, or nothing. Assumes nothing.
use native.Mathlib.Omega.{arith}
use lib.Dec.{lit≤}
use Rattle.texts.proofs.Printed.{second}
use Rattle.texts.proofs.Printing.{lays_none, lays_as}
use Rattle.texts.proofs.print.Page.put_sign.Goals as goal

pub returns-else-negative : goal.returns-else-negative
returns-else-negative c = lays_as _ 1 (lays_none 1 (omega (arith, c.requires))) (second _ _ _ c.if-negative.false) (lit≤ tt)
