-- `passes::persistence::refill` meets its contract: place by place. Assumes nothing.
use Rattle.std.proofs.Common.{length}
use Rattle.passes.specs.Plain.Persistence.{copies}
use Rattle.passes.proofs.Places.{Written}
use Rattle.passes.proofs.persistence.refill.Given as goal

abbrev pub invariant-loop-j : goal.invariant-loop-j
invariant-loop-j l = Written (length l.frame) l.depth l.j (copies l.depth l.frame) l.initial.history l.history
