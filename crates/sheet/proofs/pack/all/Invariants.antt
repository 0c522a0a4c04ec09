-- `sheet::pack::all` meets its contract: event after event is put behind the others, and the count is written last. Assumes nothing.
use Prim.Native.Nat.{◌-◌}
use mathlib.Core.Path.{◌≡◌}
use lib.ListN.{length}
use Rattle.sheet.proofs.Packing.{Stands}
use Rattle.sheet.proofs.pack.all.Given as goal

abbrev pub invariant-loop-from : goal.invariant-loop-from
invariant-loop-from l = (length l.sheet ≡ length l.initial.sheet) × Stands l.events l.n l.from l.p l.sheet

abbrev pub decreases-loop-from : goal.decreases-loop-from
decreases-loop-from l = length l.events - l.from
