-- `sheet::pack::reset` meets its contract: a letter alone. Assumes nothing.
use native.Mathlib.Omega.{arith}
use Rattle.sheet.proofs.Packing.{not_put, put_reset}
use Rattle.sheet.proofs.pack.reset.Goals as goal

pub returns-then-sheet-p : goal.returns-then-sheet-p
returns-then-sheet-p c = not_put 6 (omega arith) c.not_put.ensures

pub returns : goal.returns
returns c = put_reset c.requires.0 (omega (arith, c.if-sheet-p.false, c.reset-next.ensures.1, c.reset-next.auto.sheet)) c.requires.1 c.reset-next.ensures.1 c.reset-next.ensures.0
