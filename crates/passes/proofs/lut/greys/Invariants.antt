-- `passes::lut::greys` meets its contract. Assumes nothing.
use Rattle.std.proofs.Common.{◌*◌}
use Rattle.num.specs.Laws.Rewrite.{Rewritten}
use Rattle.passes.specs.Plain.Lut.{colour}
use Rattle.passes.specs.Private.{entry}
use Rattle.passes.proofs.lut.greys.Given as goal

abbrev pub invariant-loop-k : goal.invariant-loop-k
invariant-loop-k l = Rewritten l.k (λ k _. entry l.which (colour l.preset l.strength (k * 65793))) l.initial.table l.table
