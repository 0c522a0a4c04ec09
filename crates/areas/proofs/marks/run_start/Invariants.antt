-- `areas::marks::run_start` meets its contract: place after place. Assumes nothing.
use Prim.Native.Nat.{ℕ, ◌≤◌, ◌<◌}
use mathlib.Core.Path.{◌≡◌}
use mathlib.Core.Bool.{false}
use Rattle.areas.specs.Private.{marked}
use Rattle.areas.proofs.marks.run_start.Given as goal

abbrev pub invariant-loop-s : goal.invariant-loop-s
invariant-loop-s l = (z : ℕ) → l.x ≤ z → z < l.s → marked l.ends z ≡ false
