-- `passes::vignette::row` meets its contract: up to the middle x is the nearer to 0 of x and n - x, and from there n - x is. Assumes nothing.
use Rattle.std.proofs.Common.{ℕ, List, length, get_or}
use lib.Ieee.{Float, nan}
use Rattle.passes.specs.Plain.Pixel.{dim}
use Rattle.num.specs.Laws.Rewrite.{Rewritten}
use Rattle.passes.proofs.Mirror.{nearer}
use Rattle.passes.proofs.vignette.row.Given as goal

-- the first x words of xs are dimmed by the line, which gives ys
abbrev pub Done : List Float → ℕ → List ℕ → List ℕ → Type 0
Done line x xs ys = Rewritten x (λ k. dim (get_or line (nearer (length xs) k) nan)) xs ys

abbrev pub invariant-loop-x : goal.invariant-loop-x
invariant-loop-x l = Done l.line l.x l.initial.row l.row

abbrev pub invariant-loop-x-2 : goal.invariant-loop-x-2
invariant-loop-x-2 l = Done l.line l.x l.fn.row l.row
