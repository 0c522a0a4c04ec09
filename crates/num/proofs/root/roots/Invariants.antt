-- `num::root::roots` meets its contract: part by part. Assumes nothing.
use Prim.Native.Nat.{◌-◌}
use lib.ListN.{length}
use Rattle.num.specs.Laws.Rewrite.{Rewritten}
use Rattle.num.specs.Root.{root_of}
use Rattle.num.proofs.root.roots.Given as goal

abbrev pub invariant-loop-at : goal.invariant-loop-at
invariant-loop-at l = Rewritten l.at (λ k. root_of) l.initial.xs l.xs

abbrev pub decreases-loop-at : goal.decreases-loop-at
decreases-loop-at l = length l.initial.xs - l.at
