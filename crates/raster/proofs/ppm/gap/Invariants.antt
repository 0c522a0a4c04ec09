-- `raster::ppm::gap` meets its contract: byte after byte. Assumes nothing.
use Rattle.raster.proofs.Counting.{Gap}
use Rattle.raster.proofs.ppm.gap.Given as goal

abbrev pub invariant-loop-i : goal.invariant-loop-i
invariant-loop-i l = Gap l.bytes l.comment l.i
