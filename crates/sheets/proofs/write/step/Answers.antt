-- `sheets::write::step` meets its contract: its number is all that it has. Assumes nothing.
use mathlib.Core.Path.{refl}
use native.Mathlib.Omega.{arith}
use Rattle.sheets.specs.Events.{step}
use Rattle.sheets.proofs.Writing.{alone}
use Rattle.sheets.proofs.write.step.Goals as goal

pub returns : goal.returns
returns c = (alone 3 step refl (omega (arith, c.requires.0, c.put.auto.sheet, c.put.ensures.1)) c.put.ensures.0, c.put.ensures.1)
