-- `probe::probe_cut` meets its contract: word after word, up to the lesser length. Assumes nothing.
use Prim.Native.Nat.{◌-◌, ◌≤◌}
use Rattle.num.specs.Laws.Rewrite.{Rewritten}
use Rattle.num.specs.Steps.{cut_of}
use Rattle.probe.specs.Over.{at}
use Rattle.probe.proofs.probe_cut.Given as goal

abbrev pub invariant-loop-i : goal.invariant-loop-i
invariant-loop-i l = (l.i ≤ l.n) × Rewritten l.i (at cut_of l.xs) l.initial.out l.out

abbrev pub decreases-loop-i : goal.decreases-loop-i
decreases-loop-i l = l.n - l.i
