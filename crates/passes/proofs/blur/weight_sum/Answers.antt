-- `passes::blur::weight_sum` meets its contract: after k offsets the sum is the definition's over the first k. Assumes nothing.
use Rattle.std.proofs.Common.{sym, refl, ◌∙◌, arith}
use Rattle.passes.specs as Text
use Rattle.passes.proofs.Offsets.{total_more}
use Rattle.passes.proofs.blur.weight_sum.Goals as goal

pub loop-k-init : goal.loop-k-init
unfolding Text.Blur.total
loop-k-init c = (omega arith, refl)

pub loop-k-preserved : goal.loop-k-preserved
loop-k-preserved c = (omega arith, c.add_weight-sum.ensures ∙ rw c.loop-k.invariant.1 (sym (total_more _ _ _ _ _)))
