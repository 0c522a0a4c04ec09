-- `inspect::decimal::decode` meets its contract: a pattern with and without a leading digit. Assumes nothing.
use native.Mathlib.Omega.{arith}
use Rattle.inspect.proofs.Values.{subnormal, normal}
use Rattle.inspect.proofs.decimal.decode.Goals as goal

pub returns-then-b-lt8388608 : goal.returns-then-b-lt8388608
returns-then-b-lt8388608 c = (omega arith, omega arith, subnormal c.args.b c.if-b-lt8388608.true)

pub returns : goal.returns
returns c = (omega arith, omega arith, normal c.args.b c.if-b-lt8388608.false c.requires)
