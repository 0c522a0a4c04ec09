-- `texts::lines::switch_in` meets its contract: each test went as the definition's. Assumes nothing.
use Rattle.texts.proofs.Tests.{tests}
use Rattle.texts.specs.Lines.{switch_in}
use Rattle.texts.proofs.lines.switch_in.Goals as goal

pub returns-then-is : goal.returns-then-is
unfolding switch_in
returns-then-is c = search tests

pub returns-then-is-2 : goal.returns-then-is-2
unfolding switch_in
returns-then-is-2 c = search tests

pub returns-else-is-2 : goal.returns-else-is-2
unfolding switch_in
returns-else-is-2 c = search tests
