-- `passes::persistence::total` meets its contract. Assumes nothing.
use Rattle.std.proofs.Common.{refl, ap, ap₂, add-one}
use Rattle.num.specs.Const.{c0_55}
use Rattle.num.specs.F32.{◌⊕◌, ◌⊗◌}
use Rattle.passes.specs as Text
use Rattle.passes.proofs.persistence.total.Goals as goal

pub loop-init : goal.loop-init
unfolding Text.Persistence.total Text.Persistence.decay
loop-init c = (refl, refl)

pub loop-preserved : goal.loop-preserved
unfolding Text.Persistence.total Text.Persistence.decay
loop-preserved c = let inv = c.loop.invariant in
    (rw add-one (ap₂ ◌⊕◌ inv.0 inv.1), rw add-one (ap (λ w. w ⊗ c0_55) inv.1))
