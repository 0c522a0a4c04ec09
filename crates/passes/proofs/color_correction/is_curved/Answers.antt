-- `passes::color_correction::is_curved` meets its contract. Assumes nothing.
use Rattle.passes.specs as Text
use Rattle.passes.proofs.color_correction.is_curved.Goals as goal

pub returns : goal.returns
unfolding Text.ColorCorrection.curved
returns c = cc
