-- `passes::blur::add_row` meets its contract: a row inside is added, one outside is skipped. Assumes nothing.
use Rattle.std.proofs.Common.{sym, ◌∙◌}
use Rattle.passes.specs.Laws.Samples.{inside-left, inside_right, once_yes, once-left, once_right}
use Rattle.passes.proofs.Offsets.{row_added, row_skipped}
use Rattle.passes.proofs.blur.add_row.Goals as goal

pub returns-then-i-height : goal.returns-then-i-height
returns-then-i-height c = let a = c.args in (
  c.add_scaled.ensures.0
      ∙ row_added a.acc.now a.plane.now a.height a.radius a.y a.k _ c.offset_weight-w.result c.if-radius-y.true c.if-i-height.true
      c.row_of.ensures
      c.offset_weight-w.ensures,
  sym (once_yes a.height a.radius a.y a.k c.if-radius-y.true c.if-i-height.true),
)

pub returns-else-i-height : goal.returns-else-i-height
returns-else-i-height c = let a = c.args in (
  row_skipped a.acc.now a.plane.now a.height a.radius a.y a.k (inside_right a.height a.radius a.y a.k c.if-i-height.false),
  sym (once_right a.height a.radius a.y a.k c.if-i-height.false),
)

pub returns-else-radius-y : goal.returns-else-radius-y
returns-else-radius-y c = let a = c.args in (
  row_skipped a.acc.now a.plane.now a.height a.radius a.y a.k (inside-left a.height a.radius a.y a.k c.if-radius-y.false),
  sym (once-left a.height a.radius a.y a.k c.if-radius-y.false),
)
