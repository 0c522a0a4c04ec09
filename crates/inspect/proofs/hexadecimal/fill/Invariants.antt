-- `inspect::hexadecimal::fill` meets its contract: the bytes that are read stand at the start of the buffer. Assumes nothing.
use Prim.Native.Nat.{ℕ, ◌-◌}
use mathlib.Core.List.{List, ◌++◌}
use mathlib.Core.Path.{◌≡◌}
use lib.ListN.{length, drop}
use Rattle.inspect.proofs.Tokens.{Read}
use Rattle.inspect.proofs.hexadecimal.fill.Given as goal

-- n bytes are read, and stand before the rest of the old buffer
pub record Fills (text old new : List ℕ) (n at : ℕ) : Type 0 where
  pub done : List ℕ
  pub read : Read text at done
  pub many : length done ≡ n
  pub front : new ≡ done ++ drop n old
  pub kept : length new ≡ length old

abbrev pub invariant-loop-at : goal.invariant-loop-at
invariant-loop-at l = Fills l.text l.initial.out l.out l.n l.at

abbrev pub decreases-loop-at : goal.decreases-loop-at
decreases-loop-at l = length l.text - l.at
