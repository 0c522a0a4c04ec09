-- `passes::persistence::resize` meets its contract: place by place. Assumes nothing.
use Rattle.passes.proofs.Places.{Growing}
use Rattle.passes.proofs.persistence.resize.Given as goal

abbrev pub invariant-loop-j : goal.invariant-loop-j
invariant-loop-j l = Growing l.from l.to l.count l.initial.history l.j l.history
