-- `player::fetch` is safe and ends: each turn reads at least one of at most 3,075 bytes. Assumes nothing.
use Prim.Native.Nat.{◌-◌, ◌≤◌}
use Rattle.player.proofs.fetch.Given as goal

abbrev pub invariant-loop-n : goal.invariant-loop-n
invariant-loop-n l = (l.n ≤ 3075) × (l.end ≤ 3075)

abbrev pub decreases-loop-n : goal.decreases-loop-n
decreases-loop-n l = 3075 - l.n
