-- `texts::print::Page::put_label` meets its contract: mark, name and space. Assumes nothing.
use Rattle.texts.proofs.Printing.{lays_then}
use Rattle.texts.proofs.print.Page.put_label.Goals as goal

pub returns : goal.returns
returns c = lays_then (lays_then c.put_mark.ensures c.put_name.ensures) c.put.ensures
