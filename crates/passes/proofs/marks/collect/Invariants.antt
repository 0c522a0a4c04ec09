-- `passes::marks::collect` meets its contract: a mark is at most 255, so the sum fits. Assumes nothing.
use Rattle.std.proofs.Common.{◌≡◌, ℕ, ◌*◌, ◌/◌, ◌%◌, ◌≤◌, List, get_or}
use Rattle.num.specs.Laws.Rewrite.{Rewritten}
use Rattle.num.specs.Sums.{sum}
use Rattle.passes.proofs.marks.collect.Given as goal

-- the first i words are cleared, and the sum of their marks is n
pub record Collecting (i : ℕ) (xs ys : List ℕ) (n : ℕ) : Type 0 where
  pub words : Rewritten i (λ _ q. q % 16777216) xs ys
  pub marks : n ≡ sum i (λ k. get_or xs k 0 / 16777216)
  pub few : n ≤ 255 * i

abbrev pub invariant-loop-word : goal.invariant-loop-word
invariant-loop-word l = Collecting l.word-index l.initial.frame l.frame l.clipped
