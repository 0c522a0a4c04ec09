-- `raster::pixels::pack` meets its contract: three bytes for each word. Assumes nothing.
use Rattle.raster.proofs.Packing.{Packed}
use Rattle.raster.proofs.pixels.pack.Given as goal

abbrev pub invariant-loop-i : goal.invariant-loop-i
invariant-loop-i l = Packed l.i l.words l.initial.bytes l.bytes
