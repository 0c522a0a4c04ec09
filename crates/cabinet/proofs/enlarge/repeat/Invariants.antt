-- `cabinet::enlarge::repeat` meets its contract: word after word, each as the one above it. Assumes nothing.
use Prim.Native.Nat.{◌-◌, ◌≤◌}
use lib.ListN.{length}
use Rattle.num.specs.Laws.Rewrite.{Rewritten}
use Rattle.cabinet.proofs.Sources.{repeated}
use Rattle.cabinet.proofs.enlarge.repeat.Given as goal

abbrev pub invariant-loop-i : goal.invariant-loop-i
invariant-loop-i l = (l.wide ≤ l.i) × Rewritten l.i (repeated l.wide l.initial.out) l.initial.out l.out

abbrev pub decreases-loop-i : goal.decreases-loop-i
decreases-loop-i l = length l.initial.out - l.i
