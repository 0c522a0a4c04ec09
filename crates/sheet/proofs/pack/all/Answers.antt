-- `sheet::pack::all` meets its contract: event after event is put behind the others, and the count is written last. Assumes nothing.
use mathlib.Core.Path.{refl, ◌∙◌}
use native.Mathlib.Omega.{arith}
use Rattle.sheet.specs.Recorded.{Near, Puts}
use Rattle.sheet.proofs.Packing.{rest, rest_long, none_yet, one_more, some_wanted, whole, no_sheet}
use Rattle.sheet.proofs.pack.all.Goals as goal
use Rattle.sheet.proofs.pack.all.Lts as lts
use Rattle.sheet.proofs.pack.all.Reads as reads
use Rattle.sheet.proofs.pack.all.Tie as tie

-- an event that was put
module _ (c : lts.After-struct_known2 tie.the-claims reads.Pre reads.Post goal.the-invariant-loop-from goal.the-decreases-loop-from) where
  abbrev put : lts.After-event tie.the-claims reads.Pre reads.Post goal.the-invariant-loop-from goal.the-decreases-loop-from
  put = c.before.before.before.before.before

  abbrev turn : lts.Else1 tie.the-claims reads.Pre reads.Post goal.the-invariant-loop-from goal.the-decreases-loop-from
  turn = put.before.before.before

  abbrev at-loop : lts.At-loop tie.the-claims reads.Pre reads.Post goal.the-invariant-loop-from goal.the-decreases-loop-from
  at-loop = turn.before.before

  abbrev start : lts.Start tie.the-claims reads.Pre reads.Post goal.the-invariant-loop-from goal.the-decreases-loop-from
  start = at-loop.before.before.before

  near : Near (rest start.args.events.now at-loop.loop-from.from) at-loop.loop-from.p put.event-put.result
  near = put.event-put.ensures.0

  puts : Puts (rest start.args.events.now at-loop.loop-from.from) at-loop.loop-from.p put.event-put.result at-loop.loop-from.sheet put.event-put.new.sheet
  puts = put.event-put.ensures.1 c.if-put-ne0.false

pub loop-from-init : goal.loop-from-init
loop-from-init c = (refl, none_yet c.args.events.now c.args.sheet.now c.requires)

pub shape_of-sheet-then-n-eq65535 : goal.shape_of-sheet-then-n-eq65535
shape_of-sheet-then-n-eq65535 c = c.loop-from.invariant.0

pub returns-then-n-eq65535 : goal.returns-then-n-eq65535
returns-then-n-eq65535 c = no_sheet (λ e. omega (arith, e)) c.not_packed.ensures

pub event-put-requires : goal.event-put-requires
event-put-requires c = let there = c.loop-from.invariant.1 in
    (omega (arith, c.loop-from-test.true, rest_long c.args.events.now c.loop-from.from), omega (arith, there.few, there.upper))

pub returns-then-put-ne0 : goal.returns-then-put-ne0
returns-then-put-ne0 c = no_sheet c.if-put-ne0.true c.not_packed-then-put-ne0.ensures

pub overflow_add-from : goal.overflow_add-from
overflow_add-from c = omega (arith, (near c.before).within, rest_long c.args.events.now c.loop-from.from, c.loop-from.invariant.1.within)

pub overflow_add-n : goal.overflow_add-n
overflow_add-n c = omega (arith, c.loop-from.invariant.1.few)

pub loop-from-smaller : goal.loop-from-smaller
loop-from-smaller c = omega (arith, (puts c.before).all, some_wanted (rest c.args.events.now c.loop-from.from), c.loop-from-test.true)

pub loop-from-preserved : goal.loop-from-preserved
loop-from-preserved c = let kept = c.event-put.auto.sheet in
    (kept ∙ c.loop-from.invariant.0, one_more c.loop-from.invariant.1 (near c.before) (puts c.before) kept c.if-n-eq65535.false)

pub close-length-requires : goal.close-length-requires
close-length-requires c = let there = c.loop-from.invariant.1 in
    (omega (arith, there.few), there.lower, there.inside, omega (arith, there.few, there.upper))

pub returns : goal.returns
returns c = whole c.loop-from.invariant.1 c.loop-from-test.false c.close-length.auto.sheet c.close-length.ensures
