-- `passes::persistence::shift` meets its contract: place by place. Assumes nothing.
use Rattle.passes.proofs.Places.{Carried}
use Rattle.passes.proofs.persistence.shift.Given as goal

abbrev pub invariant-loop-j : goal.invariant-loop-j
invariant-loop-j l = Carried l.depth l.j l.initial.carried l.initial.history l.carried l.history
