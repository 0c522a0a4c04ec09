-- `passes::persistence::resize` meets its contract: place by place. Assumes nothing.
use Rattle.std.proofs.Common.{arith, le-leb}
use borrow.Author.Tests.{lt-leb}
use Rattle.passes.specs.Plain.Persistence.{resized}
use Rattle.passes.proofs.Places.{growing, growing_more, grown_all}
use Rattle.passes.proofs.persistence.resize.Goals as goal

pub returns-then-to-from : goal.returns-then-to-from
unfolding resized
returns-then-to-from c = let a = c.args in rw (le-leb a.to a.from c.if-to-from.true)

pub loop-j-init : goal.loop-j-init
loop-j-init c = let p = c.requires in growing _ _ _ _ p.0 (omega arith) p.1

pub loop-j-preserved : goal.loop-j-preserved
loop-j-preserved c = growing_more _ _ _ _ c.loop-j.invariant c.loop-j-test.true c.repeat.ensures

pub returns : goal.returns
unfolding resized
returns c = rw (lt-leb c.args.to c.args.from (omega arith)) (grown_all _ _ _ _ c.loop-j.invariant c.loop-j-test.false)
