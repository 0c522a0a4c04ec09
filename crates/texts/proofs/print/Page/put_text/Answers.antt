-- `texts::print::Page::put_text` meets its contract: a line for no pass, or a line for each. Assumes nothing.
use borrow.Author.Tests.{eqb-true, eqb-false}
use mathlib.Core.Path.{sym, ◌∙◌}
use lib.Dec.{lit≤}
use Rattle.texts.proofs.Printed.{text_none, text_some}
use Rattle.texts.proofs.Printing.{lays_as}
use Rattle.texts.proofs.print.Page.put_text.Goals as goal

pub returns-then-is_empty : goal.returns-then-is_empty
returns-then-is_empty c = lays_as _ 8192 c.put.ensures (text_none _ (eqb-true _ _ (sym c.is_empty.ensures ∙ c.if-is_empty.true))) (lit≤ tt)

pub returns-else-is_empty : goal.returns-else-is_empty
returns-else-is_empty c = lays_as _ 8192 c.put_chain.ensures (text_some _ (eqb-false _ _ (sym c.is_empty.ensures ∙ c.if-is_empty.false))) (lit≤ tt)
