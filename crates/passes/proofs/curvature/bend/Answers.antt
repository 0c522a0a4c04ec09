-- `passes::curvature::bend` meets its contract. Assumes nothing.
use Rattle.passes.specs as Text
use Rattle.passes.proofs.curvature.bend.Goals as goal

pub returns : goal.returns
unfolding Text.Curvature.bend
returns c = cc
