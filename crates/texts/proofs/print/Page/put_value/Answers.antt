-- `texts::print::Page::put_value` meets its contract: arm by arm. Assumes nothing.
use Rattle.texts.proofs.Printed.{values}
use Rattle.texts.proofs.print.Page.put_value.Goals as goal

pub returns-in-None : goal.returns-in-None
returns-in-None c = search values
