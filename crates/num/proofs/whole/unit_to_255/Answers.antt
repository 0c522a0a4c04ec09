-- `num::whole::unit_to_255` meets its contract. Assumes nothing.
use Rattle.num.proofs.Clamped.{unit_clamped_cut}
use Rattle.num.proofs.whole.unit_to_255.Goals as goal

pub returns : goal.returns
returns c = rw c.min.ensures (rw c.max.ensures (unit_clamped_cut c.args.x))
