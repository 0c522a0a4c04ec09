-- `texts::print::Page::put_chain` meets its contract: line after line. Assumes nothing.
use native.Mathlib.Omega.{arith}
use Rattle.texts.proofs.Printed.{lines_next, lines_none}
use Rattle.texts.proofs.Printing.{laying_none, laying_text, laying_end}
use Rattle.texts.proofs.print.Page.put_chain.Goals as goal

pub loop-r-init : goal.loop-r-init
loop-r-init c = (laying_none _ _, omega arith)

pub put_record-requires : goal.put_record-requires
put_record-requires c = omega (arith, c.loop-r.invariant.1, c.loop-r.invariant.0.putting.long, c.loop-r-test.true, c.requires.0, c.requires.1)

pub loop-r-preserved : goal.loop-r-preserved
loop-r-preserved c = let one = c.put_record.ensures.0 in
    (laying_text c.loop-r.invariant.0 (lines_next _ _ c.loop-r-test.true) c.put_record.ensures, omega (arith, c.loop-r.invariant.1, one.place, one.few))

pub returns : goal.returns
returns c = let i = c.loop-r.invariant in
    laying_end 8192 i.0 (lines_none _ _ c.loop-r-test.false) (omega (arith, i.1, c.loop-r.auto.r-index-end, c.requires.0))
    (omega (arith, i.1, c.loop-r.auto.r-index-end, c.requires.0, c.requires.1))
