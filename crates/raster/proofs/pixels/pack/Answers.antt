-- `raster::pixels::pack` meets its contract: three bytes for each word. Assumes nothing.
use Rattle.raster.proofs.Packing.{more}
use Rattle.raster.proofs.pixels.pack.Goals as goal

pub loop-i-preserved : goal.loop-i-preserved
loop-i-preserved c = more c.loop-i.invariant c.loop-i-test.true c.requires
