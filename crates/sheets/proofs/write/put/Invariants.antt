-- `sheets::write::put` meets its contract: bit after bit. Assumes nothing.
use Prim.Native.Nat.{◌+◌, ◌-◌, ◌/◌, ◌^◌, ◌≤◌}
use mathlib.Core.Path.{◌≡◌}
use lib.ListN.{length}
use Rattle.cards.specs.Bits.{field_at}
use Rattle.sheets.specs.Written.{Writes}
use Rattle.sheets.proofs.write.put.Given as goal

abbrev pub invariant-loop-i : goal.invariant-loop-i
invariant-loop-i l = (l.i ≤ l.width) × (length l.sheet ≡ length l.initial.sheet) × Writes (field_at l.i) (l.v / 2 ^ (l.width - l.i)) l.p (l.p + l.i) l.initial.sheet l.sheet

abbrev pub decreases-loop-i : goal.decreases-loop-i
decreases-loop-i l = l.width - l.i
