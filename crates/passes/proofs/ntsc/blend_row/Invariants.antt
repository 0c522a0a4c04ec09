-- `passes::ntsc::blend_row` meets its contract. Assumes nothing.
use Rattle.num.specs.Laws.Rewrite.{Rewritten}
use Rattle.passes.specs.Plain.Ntsc.{pixel}
use Rattle.passes.specs.Private.{at, mark_clamped}
use Rattle.passes.proofs.ntsc.blend_row.Given as goal

abbrev pub invariant-loop-x : goal.invariant-loop-x
invariant-loop-x l = Rewritten l.x (λ k p. mark_clamped (pixel l.strength (at l.u k) (at l.v k) p)) l.initial.row l.row
