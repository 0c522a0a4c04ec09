-- `texts::print::Page::digits_down` meets its contract: digit after digit. Assumes nothing.
use Prim.Native.Nat.{◌-◌}
use native.Mathlib.Omega.{arith}
use mathlib.Core.Path.{ap}
use lib.ListN.{length}
use Rattle.texts.proofs.Printed.{down-length, down-next, down_none}
use Rattle.texts.proofs.Printing.{laying_none, laying_text, laying_end}
use Rattle.texts.proofs.print.Page.digits_down.Goals as goal

pub loop-i-init : goal.loop-i-init
loop-i-init c = (laying_none _ _, omega arith)

pub bounds-digits-i : goal.bounds-digits-i
bounds-digits-i c = omega (arith, c.requires.0.long)

pub overflow_add-digits : goal.overflow_add-digits
overflow_add-digits c = omega (arith, c.requires.0.each (c.loop-i.i - 1))

pub put-requires : goal.put-requires
put-requires c = let t = c.loop-i.invariant.0.putting in let a = c.args in
    omega (arith, t.far, t.long, down-length c.loop-i.i a.digits.now, down-length a.places a.digits.now, c.loop-i-test.true, c.requires.2)

pub loop-i-preserved : goal.loop-i-preserved
loop-i-preserved c = (laying_text c.loop-i.invariant.0 (down-next _ _ c.loop-i-test.true) c.put.ensures, omega arith)

pub returns : goal.returns
returns c = let t = c.loop-i.invariant.0 in let a = c.args in
    let none = down_none c.loop-i.i a.digits.now c.loop-i-test.false in
    laying_end a.places t none (omega (arith, t.putting.far, ap length none, down-length a.places a.digits.now))
    (omega (arith, t.putting.far, ap length none, down-length a.places a.digits.now, c.requires.2))
