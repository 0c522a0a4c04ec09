-- `passes::rows::position` meets its contract. Assumes nothing.
use Rattle.passes.specs as Text
use Rattle.passes.proofs.rows.position.Goals as goal

pub returns : goal.returns
unfolding Text.Position.position
returns c = cc
