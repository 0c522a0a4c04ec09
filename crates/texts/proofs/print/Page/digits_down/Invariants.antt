-- `texts::print::Page::digits_down` meets its contract: digit after digit. Assumes nothing.
use Prim.Native.Nat.{◌≤◌}
use Rattle.texts.specs.Print.{down}
use Rattle.texts.proofs.Printing.{Laying}
use Rattle.texts.proofs.print.Page.digits_down.Given as goal

abbrev pub invariant-loop-i : goal.invariant-loop-i
invariant-loop-i l = Laying (down l.places l.digits) l.initial.self (down l.i l.digits) l.self × (l.i ≤ l.places)
