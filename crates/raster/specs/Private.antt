-- What the private functions answer, as steps. Cited by no public contract. Assumes nothing.
use Rattle.std.specs.Prelude.{ℕ, Result, Ok, Err}
use Rattle.raster.specs.Step.{Step, took, refused}
use Rattle.raster.specs.Ppm.{Size, size, number_of}
use Rattle.raster.specs.declared.ppm.Frame.{Frame}
use Rattle.raster.specs.declared.ppm.NumberRead.{NumberRead}
use Rattle.raster.specs.declared.ppm.NotAFrame.{NotAFrame}

abbrev pub number_step : Result NumberRead NotAFrame → Step ℕ
number_step (Ok n) = took n.value n.end
number_step (Err k) = refused (number_of k)

-- the header: the pixels start at the next place
abbrev pub header_step : Result Frame NotAFrame → Step Size
header_step (Ok f) = took (size f.width f.height) f.start
header_step (Err k) = refused (number_of k)
