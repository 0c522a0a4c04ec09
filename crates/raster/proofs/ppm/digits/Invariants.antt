-- `raster::ppm::digits` meets its contract: digit after digit. Assumes nothing.
use Rattle.raster.proofs.Counting.{Digits}
use Rattle.raster.proofs.ppm.digits.Given as goal

abbrev pub invariant-loop-end : goal.invariant-loop-end
invariant-loop-end l = Digits l.bytes l.value l.end
