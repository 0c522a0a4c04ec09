-- `texts::numbers::lay` meets its contract: digit after digit. Assumes nothing.
use Prim.Native.Nat.{◌-◌}
use Rattle.texts.proofs.Worths.{Laid}
use Rattle.texts.proofs.numbers.lay.Given as goal

abbrev pub invariant-loop-i : goal.invariant-loop-i
invariant-loop-i l = Laid l.fraction l.out l.i

abbrev pub decreases-loop-i : goal.decreases-loop-i
decreases-loop-i l = 150 - l.i
