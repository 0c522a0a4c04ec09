-- `passes::persistence::mix_line` meets its contract: at turn j each place has its channel of the mix with the j newest older frames. Assumes nothing.
use Rattle.std.proofs.Common.{◌+◌, ◌*◌, length, refl, arith}
use Rattle.passes.proofs.Mixes.{first, next}
use Rattle.passes.proofs.Sums.{summed_none, summed_more, summed_all}
use Rattle.passes.proofs.persistence.mix_line.Goals as goal

pub loop-j-init : goal.loop-j-init
loop-j-init c = let a = c.args in
    summed_none a.acc.now _ (first _ _ a.history.now a.part.now _ _ _ a.acc.now c.begin_line.ensures)

pub loop-j-preserved : goal.loop-j-preserved
loop-j-preserved c = let l = c.loop-j in
    let a = c.args in
    summed_more l.invariant _ _ c.loop-j-test.true (λ x q. next _ _ a.history.now a.part.now _ _ _ l.j (l.j * a.n + a.at) (length a.part.now) x refl (omega arith))
    c.add_line.ensures

pub returns : goal.returns
returns c = let a = c.args in
    summed_all c.loop-j.invariant a.acc.now c.loop-j-test.false (first _ _ a.history.now a.part.now _ _ _ a.acc.now c.begin_line.ensures)
