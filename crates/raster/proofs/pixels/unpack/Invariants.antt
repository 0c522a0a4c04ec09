-- `raster::pixels::unpack` meets its contract: pixel after pixel. Assumes nothing.
use Rattle.raster.proofs.Unpacking.{Stored}
use Rattle.raster.proofs.pixels.unpack.Given as goal

abbrev pub invariant-loop-i : goal.invariant-loop-i
invariant-loop-i l = Stored l.i l.bytes l.initial.words l.words
