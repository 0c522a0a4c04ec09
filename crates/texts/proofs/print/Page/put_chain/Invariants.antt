-- `texts::print::Page::put_chain` meets its contract: line after line. Assumes nothing.
use Prim.Native.Nat.{◌+◌, ◌*◌, ◌≤◌}
use lib.ListN.{drop}
use Rattle.texts.specs.Print.{lines_text}
use Rattle.texts.proofs.Printing.{Laying}
use Rattle.texts.proofs.print.Page.put_chain.Given as goal

abbrev pub invariant-loop-r : goal.invariant-loop-r
invariant-loop-r l = Laying (lines_text l.chain) l.initial.self (lines_text (drop l.r-index l.chain)) l.self × (l.self.at ≤ l.initial.self.at + 677 * l.r-index)
