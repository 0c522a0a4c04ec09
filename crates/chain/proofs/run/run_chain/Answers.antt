-- `chain::run::run_chain` meets its contract. The invariant, Lending's `Running`, says that the first i records have had their turns: none at first, one
-- more by `run_record`'s promise on its own part of the history, and all in the end. Assumes nothing.
use Rattle.std.proofs.Common.{arith, ◌∙◌}
use Rattle.cards.specs.Laws.Scans.{past}
use Rattle.chain.proofs.Lending.{running_none, running_ready, next_of, part_in, part_long, running_few, running_taken, running_more, running_all}
use Rattle.chain.proofs.run.run_chain.Goals as goal

pub loop-rec-init : goal.loop-rec-init
loop-rec-init c = rw (c.clipped-sum.ensures.0, c.clipped-sum.ensures.1) (running_none c.requires.lent)

pub overflow_add-end : goal.overflow_add-end
overflow_add-end c =
    let q = next_of c.loop-rec.invariant c.requires.ready c.loop-rec-test.true c.depth_of.ensures.0 c.area-count.ensures.0 in
    omega (arith, part_in c.loop-rec.invariant q)

pub offset_bounds-history-at : goal.offset_bounds-history-at
offset_bounds-history-at c =
    let q = next_of c.loop-rec.invariant c.requires.ready c.loop-rec-test.true c.depth_of.ensures.0 c.area-count.ensures.0 in
    omega (arith, part_in c.loop-rec.invariant q)

pub slice_bounds-run_record-end : goal.slice_bounds-run_record-end
slice_bounds-run_record-end c =
    let q = next_of c.loop-rec.invariant c.requires.ready c.loop-rec-test.true c.depth_of.ensures.0 c.area-count.ensures.0 in
    omega (arith, part_in c.loop-rec.invariant q)

pub run_record-counts-requires-clause-ready : goal.run_record-counts-requires-clause-ready
run_record-counts-requires-clause-ready c =
    let q = next_of c.loop-rec.invariant c.requires.ready c.loop-rec-test.true c.depth_of.ensures.0 c.area-count.ensures.0 in
    running_ready _ c.args.records.now _ _ _ _ _ past c.requires.ready q.near q.is (part_long c.loop-rec.invariant q ∙ q.parts)

pub overflow_add-sum : goal.overflow_add-sum
overflow_add-sum c =
    let q = next_of c.loop-rec.invariant c.requires.ready c.loop-rec-test.true c.depth_of.ensures.0 c.area-count.ensures.0 in
    running_few c.loop-rec.invariant q c.run_record-counts.ensures.run

pub overflow_add-sum-in-loop-rec : goal.overflow_add-sum-in-loop-rec
overflow_add-sum-in-loop-rec c =
    let q = next_of c.loop-rec.invariant c.requires.ready c.loop-rec-test.true c.depth_of.ensures.0 c.area-count.ensures.0 in
    running_taken c.loop-rec.invariant q c.run_record-counts.ensures.run

pub loop-rec-preserved : goal.loop-rec-preserved
loop-rec-preserved c =
    let q = next_of c.loop-rec.invariant c.requires.ready c.loop-rec-test.true c.depth_of.ensures.0 c.area-count.ensures.0 in
    let kept = c.run_record-counts.auto in
    rw c.run_record-counts.ensures.rest
    (running_more c.loop-rec.invariant q c.run_record-counts.ensures.run kept.frame kept.history kept.floats kept.ints)

pub returns : goal.returns
returns c = running_all c.loop-rec.invariant (omega arith)
