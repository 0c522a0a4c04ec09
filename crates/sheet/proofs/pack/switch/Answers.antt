-- `sheet::pack::switch` meets its contract: a kind below 16, and a position of two. Assumes nothing.
use native.Mathlib.Omega.{arith}
use Rattle.sheet.proofs.Packing.{not_put, put_switch}
use Rattle.sheet.proofs.pack.switch.Goals as goal

pub returns-then-events-lt3 : goal.returns-then-events-lt3
returns-then-events-lt3 c = not_put 1 (omega arith) c.not_put.ensures

pub returns-then-kind-gt15 : goal.returns-then-kind-gt15
returns-then-kind-gt15 c = not_put 4 (omega arith) c.not_put-then-kind-gt15.ensures

pub returns-then-position-gt1 : goal.returns-then-position-gt1
returns-then-position-gt1 c = not_put 5 (omega arith) c.not_put-then-position-gt1.ensures

pub returns-then-sheet-p : goal.returns-then-sheet-p
returns-then-sheet-p c = not_put 6 (omega arith) c.not_put-then-sheet-p.ensures

pub returns : goal.returns
returns c = put_switch c.requires.0 (omega (arith, c.if-sheet-p.false, c.switch-next.ensures.1, c.switch-next.auto.sheet)) (omega (arith, c.if-events-lt3.false)) c.requires.1
    c.if-position-gt1.false c.switch-next.ensures.1 c.switch-next.ensures.0
