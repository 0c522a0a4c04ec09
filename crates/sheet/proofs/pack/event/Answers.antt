-- `sheet::pack::event` meets its contract, letter by letter. Assumes nothing.
use native.Mathlib.Omega.{arith}
use Rattle.sheet.proofs.Packing.{not_put}
use Rattle.sheet.proofs.pack.event.Goals as goal

pub returns-in_default : goal.returns-in_default
returns-in_default c = not_put 2 (omega arith) c.not_put.ensures
