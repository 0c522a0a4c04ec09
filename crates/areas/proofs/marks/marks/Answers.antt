-- `areas::marks::marks` meets its contract: cleared, marked, and each mark carried on. Assumes nothing.
use Rattle.areas.proofs.Marking.{reaches}
use Rattle.areas.proofs.marks.marks.Goals as goal

pub returns : goal.returns
returns c = reaches c.requires.1 c.requires.2 c.clear.ensures c.mark_each.ensures c.reach.ensures
