-- `passes::bloom::composite_rows` meets its contract: row by row, with the sums of each row over the columns. Assumes nothing.
use Rattle.std.proofs.Common.{◌≡◌, ◌*◌, length}
use Rattle.passes.specs.Plain.Bloom.{composite, vertical}
use Rattle.passes.specs.Private.{stored, mark_clamped}
use Rattle.passes.proofs.Counted.{above}
use Rattle.passes.proofs.RowLoops.{Rows}
use Rattle.passes.proofs.bloom.composite_rows.Given as goal

abbrev pub invariant-loop-y : goal.invariant-loop-y
invariant-loop-y l = (length l.sums ≡ 3 * l.width) × (l.taken ≡ above l.height l.radius l.y)
    × Rows l.width l.height l.y (λ x y p. mark_clamped (composite l.strength (vertical l.height l.radius (stored l.planes l.width) x y) p)) l.initial.frame l.frame
