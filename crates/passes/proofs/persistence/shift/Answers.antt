-- `passes::persistence::shift` meets its contract: place by place. Assumes nothing.
use Rattle.passes.specs.Plain.Persistence.{shifted}
use Rattle.passes.proofs.Places.{carried_more, all}
use Rattle.passes.proofs.persistence.shift.Goals as goal

pub loop-j-preserved : goal.loop-j-preserved
loop-j-preserved c = carried_more c.loop-j.invariant _ _ c.loop-j-test.true c.swap_with_slice.ensures.after c.swap_with_slice.ensures.other_after

pub returns : goal.returns
unfolding shifted
returns c = all c.loop-j.invariant.written c.loop-j-test.false
