-- `sheets::write::put_words` meets its contract: word after word. Assumes nothing.
use Prim.Native.Nat.{◌+◌, ◌*◌, ◌-◌, ◌≤◌}
use mathlib.Core.Path.{◌≡◌}
use lib.ListN.{length}
use Rattle.raster.specs.Pixels.{unpacked}
use Rattle.sheets.specs.Events.{words_at}
use Rattle.sheets.specs.Written.{Writes}
use Rattle.sheets.proofs.write.put_words.Given as goal

abbrev pub invariant-loop-i : goal.invariant-loop-i
invariant-loop-i l = (l.i ≤ l.n) × (length l.sheet ≡ length l.initial.sheet) × Writes (words_at l.i) (unpacked l.i l.pixels) l.p (l.p + 24 * l.i) l.initial.sheet l.sheet

abbrev pub decreases-loop-i : goal.decreases-loop-i
decreases-loop-i l = l.n - l.i
