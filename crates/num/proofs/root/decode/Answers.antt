-- `num::root::decode` meets its contract: the numbers of the patterns are in `Patterns.antt`. Assumes nothing.
use native.Mathlib.Omega.{arith}
use Rattle.num.proofs.Patterns.{subnormal, normal}
use Rattle.num.proofs.root.decode.Goals as goal

pub returns-then-b-lt8388608 : goal.returns-then-b-lt8388608
returns-then-b-lt8388608 c = (omega arith, omega arith, omega arith, omega arith, subnormal c.args.b c.if-b-lt8388608.true)

pub returns-else-b-lt8388608 : goal.returns-else-b-lt8388608
returns-else-b-lt8388608 c = (omega arith, omega arith, omega arith, omega arith, normal c.args.b c.if-b-lt8388608.false c.requires.1)
