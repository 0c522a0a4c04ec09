-- `areas::block::add_runs` meets its contract: run after run. Assumes nothing.
use Prim.Native.Nat.{◌-◌, ◌<◌, ◌≤◌}
use mathlib.Core.Bool.{true}
use mathlib.Core.Path.{◌≡◌}
use Rattle.areas.specs.Private.{marked, SummedTo}
use Rattle.areas.proofs.block.add_runs.Given as goal

abbrev pub invariant-loop-x : goal.invariant-loop-x
invariant-loop-x l = (l.s.from ≤ l.x) × (l.x ≤ l.s.to) × (l.x < l.s.to → marked l.ends l.x ≡ true) × SummedTo l.picture l.b l.s l.ends l.x l.columns l.words

abbrev pub decreases-loop-x : goal.decreases-loop-x
decreases-loop-x l = l.s.to - l.x
