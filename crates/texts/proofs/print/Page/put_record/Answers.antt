-- `texts::print::Page::put_record` meets its contract: part after part of the line. Assumes nothing.
use lib.Dec.{lit≤}
use Rattle.texts.proofs.Printed.{line-is}
use Rattle.texts.proofs.Printing.{lays_then, lays_as}
use Rattle.texts.proofs.print.Page.put_record.Goals as goal

pub returns : goal.returns
returns c = let switched = lays_then (lays_then c.put_kind.ensures c.put.ensures) c.put_switch.ensures in
    let text = lays_then (lays_then switched c.put_settings.ensures) c.put-2.ensures in
    lays_as _ 677 text (line-is _ _ c.kind.ensures) (lit≤ tt)
