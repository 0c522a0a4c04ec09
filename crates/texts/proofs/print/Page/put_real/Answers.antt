-- `texts::print::Page::put_real` meets its contract: the sign, and the digits with their point. Assumes nothing.
use borrow.Author.Rules.{rules}
use mathlib.Core.Path.{sym}
use lib.Dec.{lit≤}
use Rattle.texts.proofs.Printed.{real-is}
use Rattle.texts.proofs.Printing.{lays_then, lays_as}
use Rattle.texts.proofs.print.Page.put_real.Goals as goal

pub slice_bounds-put_point-end : goal.slice_bounds-put_point-end
slice_bounds-put_point-end c = sym c.exact-point.ensures.value.digits.long

pub put_point-requires : goal.put_point-requires
put_point-requires c = (c.exact-point.ensures.value.digits, c.exact-point.ensures.value.few, search rules)

pub returns : goal.returns
returns c = lays_as _ 152 (lays_then c.put_sign.ensures c.put_point.ensures) (real-is _ _ _ c.exact-point.ensures.point c.exact-point.ensures.digits) (lit≤ tt)
