-- `raster::ppm::digits` meets its contract: digit after digit. Assumes nothing.
use Rattle.raster.proofs.Counting.{digits_more}
use Rattle.raster.proofs.ppm.digits.Goals as goal

pub loop-end-preserved : goal.loop-end-preserved
loop-end-preserved c = digits_more c.loop-end.invariant c.loop-end-test.true c.is_digit.ensures c.if-not-is_digit.false c.grown-value.ensures
