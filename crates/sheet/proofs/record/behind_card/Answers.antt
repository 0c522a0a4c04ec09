-- `sheet::record::behind_card` is safe: the card stands behind its length byte. Assumes nothing.
use Rattle.std.proofs.Common.{arith}
use Rattle.events.proofs.Sizes.{some_wanted}
use Rattle.sheet.proofs.record.behind_card.Goals as goal

pub slice_bounds-open-count : goal.slice_bounds-open-count
slice_bounds-open-count c = omega (arith, c.head_wanted-end.ensures.0, some_wanted c.args.file.now)

pub slice_bounds-open-start : goal.slice_bounds-open-start
slice_bounds-open-start c = omega (arith, c.head_wanted-end.ensures.0, some_wanted c.args.file.now)

pub slice_bounds-card_in-count : goal.slice_bounds-card_in-count
slice_bounds-card_in-count c = omega (arith, c.head_wanted-end.ensures.0, some_wanted c.args.file.now)

pub slice_bounds-card_in-start : goal.slice_bounds-card_in-start
slice_bounds-card_in-start c = omega (arith, c.head_wanted-end.ensures.0, some_wanted c.args.file.now)
