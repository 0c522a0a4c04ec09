-- `passes::blur::weight` meets its contract. Assumes nothing.
use Rattle.std.proofs.Common.{refl}
use lib.Ieee.{sub}
use Rattle.passes.specs as Text
use Rattle.passes.proofs.blur.weight.Goals as goal

pub returns : goal.returns
unfolding sub Text.Blur.weight
returns c = refl
