-- `inspect::decimal::reduced` meets its contract: each turn halves both parts. Assumes nothing.
use Prim.Native.Nat.{◌*◌, ◌^◌, ◌≤◌}
use mathlib.Core.Path.{◌≡◌}
use Rattle.inspect.proofs.decimal.reduced.Given as goal

abbrev pub invariant-loop-p : goal.invariant-loop-p
invariant-loop-p l = (l.p ≤ l.fn.p) × (l.n ≤ l.fn.n) × (l.n * 2 ^ l.fn.p ≡ l.fn.n * 2 ^ l.p)

abbrev pub decreases-loop-p : goal.decreases-loop-p
decreases-loop-p l = l.p
