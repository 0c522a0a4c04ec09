-- `sheet::pack::step` meets its contract: a letter alone. Assumes nothing.
use native.Mathlib.Omega.{arith}
use Rattle.sheet.proofs.Packing.{not_put, put_step}
use Rattle.sheet.proofs.pack.step.Goals as goal

pub returns-then-sheet-p : goal.returns-then-sheet-p
returns-then-sheet-p c = not_put 6 (omega arith) c.not_put.ensures

pub returns : goal.returns
returns c = put_step c.requires.0 (omega (arith, c.if-sheet-p.false, c.step-next.ensures.1, c.step-next.auto.sheet)) c.requires.1 c.step-next.ensures.1 c.step-next.ensures.0
