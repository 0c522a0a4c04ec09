-- `passes::vignette::apply` meets its contract: the quarter's table, and then row by row. Assumes nothing.
use Rattle.passes.specs as Text
use Rattle.passes.proofs.RowLoops.{begin_rows, row_length, next_row_by, rows_all}
use Rattle.passes.proofs.Quarter.{filled, rest}
use Rattle.passes.proofs.Quarter.{by-line}
use Rattle.passes.proofs.vignette.apply.Goals as goal

pub loop-y-init : goal.loop-y-init
loop-y-init c = (begin_rows _ c.requires.0.area, filled c.args.scratch.now c.requires _ _ c.lines.ensures)

pub loop-y-preserved : goal.loop-y-preserved
loop-y-preserved c = let inv = c.loop-y.invariant in
    let below = c.loop-y-test.true in
    (next_row_by inv.0 _ _ below (by-line inv.1 below c.min.ensures (row_length inv.0 below)) c.row.ensures, inv.1)

pub returns : goal.returns
unfolding Text.Vignette.vignette
returns c = (
  rows_all c.loop-y.invariant.0 c.loop-y-test.false,
  rest c.args.scratch.now c.requires _ _ c.lines.ensures,
)
