-- `areas::marks::reach` meets its contract: place after place. Assumes nothing.
use Prim.Native.Nat.{◌+◌, ◌-◌}
use mathlib.Core.Path.{◌≡◌}
use lib.ListN.{get_or}
use Rattle.areas.specs.Private.{Changed, most, most_from}
use Rattle.areas.proofs.marks.reach.Given as goal

abbrev pub invariant-loop-x : goal.invariant-loop-x
invariant-loop-x l = (l.far ≡ most (l.x - l.from) (λ i. get_or l.initial.ends (l.from + i) 0)) × Changed l.from l.x (λ z v. most_from l.from l.initial.ends z) l.initial.ends l.ends
