-- `cabinet::enlarge::enlarge` meets its contract: block by block, each from its row of the picture. Assumes nothing.
use Prim.Native.Nat.{ℕ, ◌+◌, ◌-◌, ◌*◌, ◌/◌, ◌%◌}
use mathlib.Core.List.{List}
use lib.ListN.{get_or}
use Rattle.passes.proofs.RowLoops.{Rowed}
use Rattle.cabinet.specs.Source.{shown_by}
use Rattle.cabinet.proofs.enlarge.enlarge.Given as goal

-- the word at place x of block r
abbrev pub block_at : (w : ℕ) → (picture colours : List ℕ) → (x r p : ℕ) → ℕ
block_at w picture colours x r p = shown_by colours (get_or picture (r * w + x % (3 * w) / 3) 0)

abbrev pub invariant-loop-y : goal.invariant-loop-y
invariant-loop-y l = Rowed (3 * (3 * l.width)) l.height l.y l.at (block_at l.width l.picture l.colours) l.initial.out l.out

abbrev pub decreases-loop-y : goal.decreases-loop-y
decreases-loop-y l = l.height - l.y
