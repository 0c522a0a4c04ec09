-- `texts::read::with_pass` meets its contract: each test went as the definition's. Assumes nothing.
use Rattle.texts.proofs.Reading.{after_none, beyond, misplaced, in_place}
use Rattle.texts.proofs.read.with_pass.Goals as goal

pub returns-then-d : goal.returns-then-d
returns-then-d c = after_none _ _ _ c.kind-kind.ensures _ c.if-d.true c.faulty.ensures

pub returns-then-d-ge12 : goal.returns-then-d-ge12
returns-then-d-ge12 c = beyond _ _ _ c.kind-kind.ensures c.if-d.false _ c.if-d-ge12.true c.faulty-then-d-ge12.ensures

pub returns-then-not-is_good : goal.returns-then-not-is_good
returns-then-not-is_good c =
    misplaced _ _ _ c.kind-kind.ensures c.if-d.false c.if-d-ge12.false _ c.appended-station.ensures c.is_good.ensures _ c.if-not-is_good.true
    c.faulty-then-not-is_good.ensures

pub returns : goal.returns
returns c = in_place _ _ _ c.kind-kind.ensures c.if-d.false c.if-d-ge12.false _ c.appended-station.ensures c.is_good.ensures c.if-not-is_good.false
