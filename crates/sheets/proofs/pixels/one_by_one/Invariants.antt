-- `sheets::pixels::one_by_one` meets its contract: word after word. Assumes nothing.
use Prim.Native.Nat.{◌-◌}
use lib.ListN.{length}
use Rattle.sheets.specs.Promises.{word_at}
use Rattle.sheets.proofs.Words.{Put}
use Rattle.sheets.proofs.pixels.one_by_one.Given as goal

abbrev pub invariant-loop-i : goal.invariant-loop-i
invariant-loop-i l = Put (word_at l.sheet l.first l.below) l.initial.words l.i l.words

abbrev pub decreases-loop-i : goal.decreases-loop-i
decreases-loop-i l = length l.initial.words - l.i
