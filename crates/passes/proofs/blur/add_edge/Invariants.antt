-- `passes::blur::add_edge` meets its contract. Assumes nothing.
use Rattle.std.proofs.Common.{◌≡◌, ◌+◌, length}
use Rattle.num.specs.F32.{◌⊗◌}
use Rattle.num.specs.Laws.Rewrite.{Rewritten}
use Rattle.num.specs.Sums.{sum}
use Rattle.passes.specs.Private.{at, onward, insides}
use Rattle.passes.proofs.blur.add_edge.Given as goal

abbrev pub invariant-loop-i : goal.invariant-loop-i
invariant-loop-i l = Rewritten l.i (λ i. onward (λ j v. at l.src j ⊗ v) (length l.src) l.radius (l.start + i) l.k 4) l.initial.part l.part
    × (l.samples ≡ sum l.i (λ i. insides (length l.src) l.radius l.k 4 (l.start + i)))
