-- `inspect::decimal::reduced` meets its contract: each turn halves both parts. Assumes nothing.
use native.Mathlib.Omega.{arith}
use Rattle.inspect.proofs.Powers.{halved}
use Rattle.inspect.proofs.decimal.reduced.Goals as goal

pub loop-p-preserved : goal.loop-p-preserved
loop-p-preserved c = let i = c.loop-p.invariant in
    (omega (arith, i.0), omega (arith, i.1), halved _ _ _ _ i.2 c.loop-p-test.true c.if-n-eq0.true)
