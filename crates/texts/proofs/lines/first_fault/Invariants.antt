-- `texts::lines::first_fault` meets its contract: setting after setting. Assumes nothing.
use Rattle.texts.proofs.Lining.{Unfaulted}
use Rattle.texts.proofs.lines.first_fault.Given as goal

abbrev pub invariant-loop-j : goal.invariant-loop-j
invariant-loop-j l = Unfaulted l.line l.kind l.j
