-- `cards::writer::chain` meets its contract: the loop's invariant is `Laying`. Assumes nothing.
use Rattle.std.proofs.Common.{arith, refl}
use Rattle.cards.specs.Sheet.{blank}
use Rattle.cards.specs.Laws.Scans.{past}
use Rattle.cards.proofs.Laying.{laid_none, laid_one, laid_all}
use Rattle.cards.proofs.writer.chain.Goals as goal

pub loop-r-init : goal.loop-r-init
loop-r-init c = laid_none _ blank _ _ refl c.put.ensures.bits c.put-2.ensures.bits

pub loop-r-preserved : goal.loop-r-preserved
loop-r-preserved c = laid_one _ _ _ _ past c.loop-r.invariant c.loop-r-test.true _ c.put_record.ensures

pub returns : goal.returns
returns c = laid_all _ _ _ _ c.loop-r.invariant (omega arith)
