-- `texts::numbers::whole` meets its contract: digit after digit. Assumes nothing.
use native.Mathlib.Omega.{arith}
use Rattle.texts.proofs.Worths.{worth_none, worth_more, worth_all, room}
use Rattle.texts.proofs.numbers.whole.Goals as goal

pub loop-b-init : goal.loop-b-init
loop-b-init c = worth_none _

pub overflow_mul-v : goal.overflow_mul-v
overflow_mul-v c = omega (arith, room c.loop-b.invariant c.requires c.loop-b-test.true)

pub overflow_add-v : goal.overflow_add-v
overflow_add-v c = omega (arith, room c.loop-b.invariant c.requires c.loop-b-test.true, c.digit.ensures.1)

pub loop-b-preserved : goal.loop-b-preserved
loop-b-preserved c = worth_more c.loop-b.invariant c.requires c.loop-b-test.true c.digit.ensures

pub returns : goal.returns
returns c = worth_all c.loop-b.invariant c.requires c.loop-b-test.false
