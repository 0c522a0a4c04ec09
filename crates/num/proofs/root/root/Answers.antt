-- `num::root::root` meets its contract: the root of a line of one value. Assumes nothing.
use mathlib.Core.Path.{ap}
use mathlib.Core.List.{List}
use lib.ListN.{get_or}
use lib.Ieee.{Float, nan}
use Rattle.num.specs.Rewrite.{rewrite}
use Rattle.num.proofs.root.root.Goals as goal

pub returns : goal.returns
unfolding rewrite
returns c = ap (λ (l : List Float). get_or l 0 nan) c.roots.ensures
