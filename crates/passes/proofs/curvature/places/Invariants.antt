-- `passes::curvature::places` meets its contract: what the copy has at the places so far is the bent row. Assumes nothing.
use Rattle.std.proofs.Common.{◌≡◌, ℕ, List, length, get_or}
use Rattle.num.specs.Rewrite.{rewrite}
use Rattle.num.specs.Laws.Rewrite.{Rewritten}
use Rattle.passes.specs.Plain.Curvature.{word_at}
use Rattle.passes.proofs.curvature.places.Given as goal

-- the first x words of the line are places, at which the copy has f
pub record Placed (x : ℕ) (f : ℕ → ℕ) (copy before line : List ℕ) : Type 0 where
  pub kept : length line ≡ length before
  pub so_far : Rewritten x (λ k _. f k) before (rewrite x (λ _ p. get_or copy p 0) line)

abbrev pub invariant-loop-x : goal.invariant-loop-x
invariant-loop-x l = Placed l.x (λ k. word_at l.width l.height l.amount l.copy k l.y 0) l.copy l.initial.line l.line
