-- `texts::numbers::whole` meets its contract: digit after digit. Assumes nothing.
use Rattle.texts.proofs.Worths.{Worth}
use Rattle.texts.proofs.numbers.whole.Given as goal

abbrev pub invariant-loop-b : goal.invariant-loop-b
invariant-loop-b l = Worth l.digits l.v l.b-index
