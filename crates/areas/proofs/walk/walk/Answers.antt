-- `areas::walk::walk` meets its contract: band after band. Assumes nothing.
use mathlib.Core.Path.{◌∙◌}
use native.Mathlib.Omega.{arith}
use Rattle.areas.specs.Private.{Framed}
use Rattle.areas.proofs.Bands.{begun, framed, totals_cleared, kept, words-few, ready, walked, over-now}
use Rattle.areas.proofs.Search.{placed_in}
use Rattle.areas.proofs.walk.walk.Goals as goal
use Rattle.areas.proofs.walk.walk.Lts as lts
use Rattle.areas.proofs.walk.walk.Reads as reads
use Rattle.areas.proofs.walk.walk.Tie as tie

-- what is known of the frame where the loop begins
frame : (c : lts.At-loop tie.the-claims reads.Pre reads.Post goal.the-invariant-loop-y goal.the-decreases-loop-y) → let a = c.args in
    Framed a.picture.now a.width a.height a.areas.now c.clear.new.line
frame c =
    framed c.requires c.clear.ensures

pub clear-requires : goal.clear-requires
clear-requires c = (omega arith, omega arith)

pub loop-y-init : goal.loop-y-init
loop-y-init c = (
  begun c.requires c.clear.ensures,
  record { for_ends = c.line-ends.ensures; for_columns = c.line-columns.ensures; for_sums = c.line-sums.ensures },
)

pub band_end-end-requires : goal.band_end-end-requires
band_end-end-requires c = let f = frame c.before.before in
    (placed_in f.placed f.narrow f.low, c.loop-y-test.true)

pub overflow_sub-b : goal.overflow_sub-b
overflow_sub-b c = omega (arith, c.band_end-end.ensures.past)

pub band-words-requires : goal.band-words-requires
band-words-requires c = (ready c.loop-y.invariant.0 (frame c.before.before.before.before.before.before.before) c.band_end-end.ensures, c.loop-y.invariant.1)

pub overflow_add-words : goal.overflow_add-words
overflow_add-words c = let t = walked c.loop-y.invariant.0 (frame c.before.before.before.before.before.before.before.before.before.before.before.before.before) c.band_end-end.ensures c.band-words.ensures in
    omega (arith, words-few t (frame c.before.before.before.before.before.before.before.before.before.before.before.before.before), t.within, (frame c.before.before.before.before.before.before.before.before.before.before.before.before.before).low)

pub loop-y-smaller : goal.loop-y-smaller
loop-y-smaller c = omega (arith, c.band_end-end.ensures.past, c.band_end-end.ensures.within)

pub loop-y-preserved : goal.loop-y-preserved
loop-y-preserved c = let lent = c.loop-y.invariant.1 in
    let kept = c.band-words.auto in (
      walked c.loop-y.invariant.0 (frame c.before.before.before.before.before.before.before.before.before.before.before.before.before) c.band_end-end.ensures c.band-words.ensures,
      record { for_ends = kept.ends ∙ lent.for_ends; for_columns = kept.columns ∙ lent.for_columns; for_sums = kept.sums ∙ lent.for_sums },
    )

pub shape_of-res : goal.shape_of-res
shape_of-res c = kept c.loop-y.invariant.0 (frame c.before.before) ∙ c.clear.auto.line

pub returns : goal.returns
returns c = let done = over-now c.loop-y.invariant.0 (frame c.before.before) c.loop-y-test.false in
    (done.0, done.1 ∙ totals_cleared c.requires c.clear.ensures)
