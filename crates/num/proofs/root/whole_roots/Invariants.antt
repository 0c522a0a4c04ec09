-- `num::root::whole_roots` meets its contract: each turn has two digits of every root more, and after the last the place is 1. Assumes nothing.
use mathlib.Core.Path.{◌≡◌}
use Prim.Native.Nat.{ℕ, ◌-◌, ◌*◌, ◌^◌, ◌<◌}
use mathlib.Core.List.{List}
use lib.ListN.{length, get_or}
use Rattle.num.specs.Private.{Digits}
use Rattle.num.proofs.root.whole_roots.Given as goal

-- the digits of each root down to the place
pub record Found (ms : List ℕ) (place : ℕ) (rest twice : List ℕ) : Type 0 where
  pub first : length rest ≡ length ms
  pub second : length twice ≡ length ms
  pub digits : (k : ℕ) → k < length ms → Digits (get_or ms k 0 * 2 ^ 25) (get_or rest k 0) (get_or twice k 0) place

abbrev pub invariant-loop-pass : goal.invariant-loop-pass
invariant-loop-pass l = (l.place ≡ 4 ^ (13 - l._pass)) × Found l.initial.rest l.place l.rest l.twice
