-- `passes::curvature::outside` meets its contract. Assumes nothing.
use Rattle.passes.specs as Text
use Rattle.passes.proofs.curvature.outside.Goals as goal

pub returns-then-s : goal.returns-then-s
unfolding Text.Curvature.outside
returns-then-s c = rw c.if-s.true

pub returns-else-s : goal.returns-else-s
unfolding Text.Curvature.outside
returns-else-s c = rw c.if-s.false
