-- `sheets::pixels::by_four` meets its contract: four words after four words. Assumes nothing.
use Prim.Native.Nat.{◌-◌, ◌%◌}
use mathlib.Core.Path.{◌≡◌}
use lib.ListN.{length}
use Rattle.sheets.specs.Promises.{word_at}
use Rattle.sheets.proofs.Words.{Put}
use Rattle.sheets.proofs.pixels.by_four.Given as goal

abbrev pub invariant-loop-i : goal.invariant-loop-i
invariant-loop-i l = (l.i % 4 ≡ 0) × Put (word_at l.sheet l.first l.below) l.initial.words l.i l.words

abbrev pub decreases-loop-i : goal.decreases-loop-i
decreases-loop-i l = length l.initial.words - l.i
