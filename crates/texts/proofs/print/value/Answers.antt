-- `texts::print::value` meets its contract: the value stands at the start. Assumes nothing.
use Rattle.texts.proofs.Printed.{at-start}
use Rattle.texts.proofs.print.value.Goals as goal

pub returns : goal.returns
returns c = at-start c.put_value.ensures.0
