-- `passes::bloom::bright_line` meets its contract. Assumes nothing.
use Rattle.std.proofs.Common.{get_or}
use Rattle.num.specs.Laws.Rewrite.{Rewritten}
use Rattle.passes.specs.Plain.Bloom.{bright_of}
use Rattle.passes.proofs.bloom.bright_line.Given as goal

abbrev pub invariant-loop-i : goal.invariant-loop-i
invariant-loop-i l = Rewritten l.i (λ k v. bright_of l.threshold l.which (get_or l.row k 0)) l.initial.out l.out
