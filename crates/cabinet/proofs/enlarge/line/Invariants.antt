-- `cabinet::enlarge::line` meets its contract: three words for each number. Assumes nothing.
use Prim.Native.Nat.{◌-◌, ◌*◌, ◌/◌}
use lib.ListN.{length, get_or}
use Rattle.num.specs.Laws.Rewrite.{Rewritten}
use Rattle.cabinet.specs.Source.{shown_by}
use Rattle.cabinet.proofs.enlarge.line.Given as goal

abbrev pub invariant-loop-x : goal.invariant-loop-x
invariant-loop-x l = Rewritten (3 * l.x) (λ k w. shown_by l.colours (get_or l.row (k / 3) 0)) l.initial.out l.out

abbrev pub decreases-loop-x : goal.decreases-loop-x
decreases-loop-x l = length l.row - l.x
