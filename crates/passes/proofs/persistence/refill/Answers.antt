-- `passes::persistence::refill` meets its contract: place by place. Assumes nothing.
use Rattle.std.proofs.Common.{◌*◌, ◌++◌, length, drop, sym, ap, ◌∙◌, arith, take_all}
use Rattle.passes.specs.Plain.Persistence.{copies, refilled}
use Rattle.passes.specs.Laws.Persistence.{length-copies}
use Rattle.passes.proofs.Places.{none, more, all, copies-place}
use Rattle.passes.proofs.persistence.refill.Goals as goal

pub loop-j-init : goal.loop-j-init
loop-j-init c = none _ _ _ _ c.requires (omega (arith, length-copies c.args.depth c.args.frame.now))

pub loop-j-preserved : goal.loop-j-preserved
loop-j-preserved c = let inv = c.loop-j.invariant in
    more inv _ c.loop-j-test.true (c.copy.ensures ∙ sym (copies-place _ _ _ c.loop-j-test.true))

pub returns : goal.returns
unfolding refilled
returns c = let a = c.args in
    let n = length a.frame.now in
    all c.loop-j.invariant c.loop-j-test.false
    ∙ ap (λ l. l ++ drop (a.depth * n) a.history.now) (take_all (a.depth * n) (copies a.depth a.frame.now) (omega (arith, length-copies a.depth a.frame.now)))
