-- `passes::bloom::horizontal_row` meets its contract: channel by channel, as rows of a frame three high. Assumes nothing.
use Rattle.std.proofs.Common.{◌∙◌, arith}
use Rattle.passes.proofs.RowLoops.{begin_rows, next_row}
use Rattle.passes.proofs.bloom.horizontal_row.Goals as goal

pub loop-which-init : goal.loop-which-init
loop-which-init c = let p = c.requires in (p.2, (λ h. absurd (omega arith)), begin_rows _ p.1)

pub loop-which-preserved : goal.loop-which-preserved
loop-which-preserved c = let l = c.loop-which.invariant in
    (c.blurred_line-samples.auto.line ∙ l.0, (λ h. c.blurred_line-samples.ensures.1), next_row l.2 _ c.loop-which-test.true c.blurred_line-samples.ensures.0)
