-- `texts::read::with_none` meets its contract. Assumes nothing.
use Rattle.texts.proofs.Reading.{beside, alone}
use Rattle.texts.proofs.read.with_none.Goals as goal

pub returns-then-d-ne0 : goal.returns-then-d-ne0
returns-then-d-ne0 c = beside _ _ c.if-d-ne0.true c.faulty.ensures

pub returns : goal.returns
returns c = alone _ c.if-d-ne0.false
