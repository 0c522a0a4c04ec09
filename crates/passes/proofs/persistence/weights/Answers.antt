-- `passes::persistence::weights` meets its contract. Assumes nothing.
use Rattle.std.proofs.Common.{refl, ap, add-one, arith}
use lib.Ieee.{nan}
use Rattle.num.specs.Const.{c0_55}
use Rattle.num.specs.F32.{◌⊗◌, ◌⊘◌}
use Rattle.passes.specs as Text
use Rattle.num.specs.Laws.Rewrite.{none, more}
use Rattle.passes.proofs.persistence.weights.Goals as goal

pub loop-share-init : goal.loop-share-init
unfolding Text.Persistence.decay
loop-share-init c = (none _ _, refl)

pub loop-share-preserved : goal.loop-share-preserved
unfolding Text.Persistence.decay
loop-share-preserved c = let inv = c.loop-share.invariant in
    let sum = c.args.sum in
    (more inv.0 nan (omega arith) (ap (λ w. w ⊘ sum) inv.1), rw add-one (ap (λ w. w ⊗ c0_55) inv.1))
