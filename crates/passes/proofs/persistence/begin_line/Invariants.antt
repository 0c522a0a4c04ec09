-- `passes::persistence::begin_line` meets its contract. Assumes nothing.
use Rattle.std.proofs.Common.{get_or}
use Rattle.num.specs.F32.{◌⊗◌}
use Rattle.num.specs.Laws.Rewrite.{Rewritten}
use Rattle.passes.specs.Plain.Pixel.{channel, unpack}
use Rattle.passes.proofs.persistence.begin_line.Given as goal

abbrev pub invariant-loop-i : goal.invariant-loop-i
invariant-loop-i l = Rewritten l.i (λ x v. channel l.which (unpack (get_or l.part x 0)) ⊗ l.w) l.initial.acc l.acc
