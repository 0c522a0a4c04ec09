-- `passes::crt::shade` meets its contract. Assumes nothing.
use Rattle.passes.specs as Text
use Rattle.passes.proofs.crt.shade.Goals as goal

pub returns : goal.returns
unfolding Text.Crt.shade
returns c = cc
