-- `replay::adler::adler` meets its contract: the sums of the first i bytes. Assumes nothing.
use Prim.Native.Nat.{ℕ, ◌≤◌}
use mathlib.Core.List.{List}
use Rattle.passes.specs.Laws.Fold.{Folded}
use Rattle.replay.specs.Adler.{sums, add_byte}
use Rattle.replay.specs.declared.adler.Sums.{Sums}
use Rattle.replay.proofs.adler.adler.Given as goal

-- both sums stay below 65521
pub record Summed (bytes : List ℕ) (s : Sums) (i : ℕ) : Type 0 where
  pub so_far : Folded i add_byte (sums 1 0) bytes s
  pub small_a : s.a ≤ 65520
  pub small_b : s.b ≤ 65520

abbrev pub invariant-loop-byte : goal.invariant-loop-byte
invariant-loop-byte l = Summed l.bytes l.s l.byte-index
