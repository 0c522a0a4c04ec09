-- `raster::pixels::unpack` meets its contract: pixel after pixel. Assumes nothing.
use Rattle.raster.proofs.Unpacking.{more}
use Rattle.raster.proofs.pixels.unpack.Goals as goal

pub loop-i-preserved : goal.loop-i-preserved
loop-i-preserved c = more c.loop-i.invariant c.loop-i-test.true c.pixel.ensures
