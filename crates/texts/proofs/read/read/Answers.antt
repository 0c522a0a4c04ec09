-- `texts::read::read` meets its contract: line after line. Assumes nothing.
use Rattle.texts.proofs.Reading.{reached_none, reached_more, read-stops, read_all}
use Rattle.texts.proofs.read.read.Goals as goal

pub loop-at-init : goal.loop-at-init
loop-at-init c = reached_none _ _ c.begun-d.ensures

pub returns-in-Err : goal.returns-in-Err
returns-in-Err c = read-stops c.loop-at.invariant c.loop-at-test.true _ c.line_end-end.ensures.0 c.with_text.ensures _ c.in-Err.is

pub loop-at-preserved : goal.loop-at-preserved
loop-at-preserved c = reached_more c.loop-at.invariant c.loop-at-test.true _ c.line_end-end.ensures.0 c.with_text.ensures _ c.in-Ok.is

pub returns : goal.returns
returns c = read_all c.loop-at.invariant c.loop-at-test.false c.finished.ensures
