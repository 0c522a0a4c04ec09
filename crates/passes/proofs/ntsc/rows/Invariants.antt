-- `passes::ntsc::rows` meets its contract: row by row. Assumes nothing.
use Rattle.std.proofs.Common.{◌≡◌, ◌*◌, length}
use Rattle.passes.specs.Samples.{samples as samples_of}
use Rattle.passes.specs.Private.{at, ntsc_by, mark_clamped}
use Rattle.passes.proofs.RowLoops.{Rows}
use Rattle.passes.proofs.ntsc.rows.Given as goal

abbrev pub invariant-loop-y : goal.invariant-loop-y
invariant-loop-y l = (length l.line ≡ l.width) × (length l.u ≡ l.width) × (length l.v ≡ l.width) × (l.samples ≡ l.y * samples_of l.width l.bleed)
    × Rows l.width l.height l.y (λ x y p. mark_clamped (ntsc_by (at l.w) l.width l.strength l.bleed l.initial.frame x y p)) l.initial.frame l.frame
