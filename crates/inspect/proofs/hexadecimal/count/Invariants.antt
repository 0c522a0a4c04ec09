-- `inspect::hexadecimal::count` meets its contract: the bytes that are read are counted. Assumes nothing.
use Prim.Native.Nat.{ℕ, ◌-◌, ◌≤◌}
use mathlib.Core.List.{List}
use mathlib.Core.Path.{◌≡◌}
use lib.ListN.{length}
use Rattle.inspect.proofs.Tokens.{Read}
use Rattle.inspect.proofs.hexadecimal.count.Given as goal

-- n bytes are read
pub record Counts (text : List ℕ) (n at : ℕ) : Type 0 where
  pub done : List ℕ
  pub read : Read text at done
  pub many : length done ≡ n
  pub less : n ≤ at

abbrev pub invariant-loop-at : goal.invariant-loop-at
invariant-loop-at l = Counts l.text l.n l.at

abbrev pub decreases-loop-at : goal.decreases-loop-at
decreases-loop-at l = length l.text - l.at
