-- `num::root::digits` meets its contract: each turn has two digits of one root more. Assumes nothing.
use mathlib.Core.Path.{◌≡◌}
use Prim.Native.Nat.{ℕ, ◌*◌}
use mathlib.Core.List.{List}
use lib.ListN.{length, get_or}
use Rattle.num.specs.Private.{Further}
use Rattle.num.proofs.PairedLines.{Paired}
use Rattle.num.proofs.root.digits.Given as goal

-- two digits more, and none yet
abbrev pub Done : ℕ → List ℕ → List ℕ → ℕ → ℕ → ℕ → Type 0
Done place rest twice k r t = Further (get_or rest k 0) (get_or twice k 0) (4 * place) r t place

abbrev pub Still : List ℕ → List ℕ → ℕ → ℕ → ℕ → Type 0
Still rest twice k r t = (r ≡ get_or rest k 0) × (t ≡ get_or twice k 0)

abbrev pub invariant-loop-i : goal.invariant-loop-i
invariant-loop-i l = Paired (length l.initial.rest) l.i (Done l.place l.initial.rest l.initial.twice) (Still l.initial.rest l.initial.twice) l.rest l.twice
