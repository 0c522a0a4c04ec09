-- `num::root::begin` meets its contract: each turn has one value more. Assumes nothing.
use Prim.Native.Nat.{ℕ}
use mathlib.Core.List.{List}
use lib.ListN.{length, get_or}
use lib.Ieee.{Float, nan}
use Rattle.num.specs.Private.{Readied}
use Rattle.num.proofs.PairedLines.{Paired}
use Rattle.num.proofs.root.begin.Given as goal

abbrev pub Ready : List Float → ℕ → ℕ → ℕ → Type 0
Ready xs k m power = Readied (get_or xs k nan) m power

abbrev pub invariant-loop-i : goal.invariant-loop-i
invariant-loop-i l = Paired (length l.xs) l.i (Ready l.xs) (λ _ _ _. Unit {0}) l.rest l.power
