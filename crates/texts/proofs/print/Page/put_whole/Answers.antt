-- `texts::print::Page::put_whole` meets its contract: as many digits as there are. Assumes nothing.
use lib.Dec.{lit≤}
use Rattle.texts.proofs.Printed.{whole-one, whole-two, whole-three}
use Rattle.texts.proofs.Printing.{lays_as}
use Rattle.texts.proofs.print.Page.put_whole.Goals as goal

pub returns-then-v-lt10 : goal.returns-then-v-lt10
returns-then-v-lt10 c = lays_as _ 3 c.put.ensures (whole-one _ c.if-v-lt10.true) (lit≤ tt)

pub returns-then-v-lt100 : goal.returns-then-v-lt100
returns-then-v-lt100 c = lays_as _ 3 c.put-then-v-lt100.ensures (whole-two _ c.if-v-lt10.false c.if-v-lt100.true) (lit≤ tt)

pub returns-else-v-lt100 : goal.returns-else-v-lt100
returns-else-v-lt100 c = lays_as _ 3 c.put-else-v-lt100.ensures (whole-three _ c.if-v-lt10.false c.if-v-lt100.false) (lit≤ tt)
