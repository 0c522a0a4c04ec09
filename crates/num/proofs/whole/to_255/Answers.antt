-- `num::whole::to_255` meets its contract. Assumes nothing.
use lib.Dec.{lit≤}
use Rattle.num.specs.Const.{c255_0}
use Rattle.num.specs.Laws.Bounds.{top_is}
use Rattle.num.proofs.Clamped.{clamped_cut, top_above}
use Rattle.num.proofs.whole.to_255.Goals as goal

pub returns : goal.returns
returns c = rw c.min.ensures (rw c.max.ensures (clamped_cut 255 c.args.x c255_0 (lit≤ tt) top_is top_above))
