-- `raster::ppm::parse` meets its contract. Assumes nothing.
use mathlib.Core.Path.{sym}
use native.Mathlib.Nat.{mul-le-mul}
use native.Mathlib.Omega.{arith}
use Rattle.raster.proofs.Taken.{header_inside}
use Rattle.raster.proofs.ppm.parse.Goals as goal

-- sides of at most 1024 have a product that fits, and the pixels start inside the bytes or at their end
pub overflow_add-end : goal.overflow_add-end
overflow_add-end c = omega (arith, mul-le-mul c.if-width-gt1024.false c.if-height-gt1024.false, header_inside _ _ _ (sym c.in_ok-frame.ensures))
