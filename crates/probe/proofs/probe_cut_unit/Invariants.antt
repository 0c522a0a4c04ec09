-- `probe::probe_cut_unit` meets its contract: word after word, up to the lesser length. Assumes nothing.
use Prim.Native.Nat.{ℕ, ◌-◌, ◌≤◌}
use Rattle.num.specs.Laws.Rewrite.{Rewritten}
use lib.Ieee.{Float}
use Rattle.num.specs.Const.{c0_0, c1_0, c255_0}
use Rattle.num.specs.F32.{◌⊗◌}
use Rattle.num.specs.Steps.{clamp_of, cut_of}
use Rattle.probe.specs.Over.{at}
use Rattle.probe.proofs.probe_cut_unit.Given as goal

abbrev pub step : Float → ℕ
step x = cut_of (clamp_of x c0_0 c1_0 ⊗ c255_0)

abbrev pub invariant-loop-i : goal.invariant-loop-i
invariant-loop-i l = (l.i ≤ l.n) × Rewritten l.i (at step l.xs) l.initial.out l.out

abbrev pub decreases-loop-i : goal.decreases-loop-i
decreases-loop-i l = l.n - l.i
