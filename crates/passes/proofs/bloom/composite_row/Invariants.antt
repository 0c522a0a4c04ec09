-- `passes::bloom::composite_row` meets its contract. Assumes nothing.
use Rattle.std.proofs.Common.{◌+◌, ◌*◌, length}
use Rattle.passes.specs.Plain.Pixel.{rgb}
use Rattle.num.specs.Laws.Rewrite.{Rewritten}
use Rattle.passes.specs.Plain.Blur.{quotient}
use Rattle.passes.specs.Plain.Bloom.{composite}
use Rattle.passes.specs.Private.{at, mark_clamped}
use Rattle.passes.proofs.bloom.composite_row.Given as goal

abbrev pub invariant-loop-x : goal.invariant-loop-x
invariant-loop-x l = Rewritten l.x (λ k p. mark_clamped (composite l.strength (rgb (quotient (at l.sums k) l.w) (quotient (at l.sums (length l.initial.row + k)) l.w) (quotient (at l.sums (2 * length l.initial.row + k)) l.w)) p)) l.initial.row l.row
