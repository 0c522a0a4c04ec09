-- `num::root::finish` meets its contract: each turn has put one root more together. Assumes nothing.
use Rattle.num.specs.Laws.Rewrite.{Rewritten}
use Rattle.num.specs.Root.{root_of}
use Rattle.num.proofs.root.finish.Given as goal

abbrev pub invariant-loop-i : goal.invariant-loop-i
invariant-loop-i l = Rewritten l.i (λ k. root_of) l.initial.xs l.xs
