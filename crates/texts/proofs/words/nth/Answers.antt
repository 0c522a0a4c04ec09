-- `texts::words::nth` meets its contract: word after word. Assumes nothing.
use native.Mathlib.Numerals.{add-one}
use Rattle.texts.proofs.Spans.{passed_one, passed_more, passed_all}
use Rattle.texts.proofs.words.nth.Goals as goal

pub loop-init : goal.loop-init
loop-init c = passed_one _ _ _ c.next-word.ensures

pub next-word-requires-in-loop : goal.next-word-requires-in-loop
next-word-requires-in-loop c = c.loop.invariant.within

pub loop-preserved : goal.loop-preserved
loop-preserved c = rw add-one (passed_more c.loop.invariant _ c.loop-test.true c.next-word-in-loop.ensures)

pub returns : goal.returns
returns c = passed_all c.loop.invariant c.loop-test.false
