-- `passes::bloom::horizontal` meets its contract: row by row, three channels to a row of the planes. Assumes nothing.
use Rattle.std.proofs.Common.{◌≡◌, ◌*◌, ◌/◌, ◌%◌, length}
use Rattle.passes.specs.Samples.{samples as samples_of}
use Rattle.passes.specs.Private.{at, horizontal_by}
use Rattle.passes.proofs.RowLoops.{Rows}
use Rattle.passes.proofs.bloom.horizontal.Given as goal

abbrev pub invariant-loop-y : goal.invariant-loop-y
invariant-loop-y l = (length l.line ≡ l.width) × (l.samples ≡ l.y * samples_of l.width l.radius)
    × Rows (3 * l.width) l.height l.y (λ i j v. horizontal_by (at l.w) l.width l.radius l.threshold l.frame (i / l.width) (i % l.width) j) l.initial.planes l.planes
