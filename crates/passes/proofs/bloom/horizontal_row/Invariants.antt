-- `passes::bloom::horizontal_row` meets its contract: channel by channel, as rows of a frame three high. Assumes nothing.
use Rattle.std.proofs.Common.{◌≡◌, ◌<◌, length, get_or}
use Rattle.passes.specs.Plain.Bloom.{bright_of}
use Rattle.passes.specs.Samples.{samples as samples_of}
use Rattle.passes.specs.Private.{at, blur_by}
use Rattle.passes.proofs.RowLoops.{Rows}
use Rattle.passes.proofs.bloom.horizontal_row.Given as goal

abbrev pub invariant-loop-which : goal.invariant-loop-which
invariant-loop-which l = (length l.line ≡ length l.row) × (0 < l.which → l.samples ≡ samples_of (length l.row) l.radius)
    × Rows (length l.row) 3 l.which (λ x y v. blur_by (at l.w) (λ i. bright_of l.threshold y (get_or l.row i 0)) (length l.row) l.radius x) l.initial.out l.out
