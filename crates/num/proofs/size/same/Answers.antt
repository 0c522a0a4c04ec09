-- `num::size::same` meets its contract. Assumes nothing.
use borrow.Author.Tests.{eq-eqb, ne_eqb}
use Rattle.num.specs.Held.{same_held}
use Rattle.num.proofs.size.same.Goals as goal

pub returns-then-a-b : goal.returns-then-a-b
unfolding same_held
returns-then-a-b c = simp (eq-eqb _ _ c.if-a-b.true)

pub returns-else-a-b : goal.returns-else-a-b
unfolding same_held
returns-else-a-b c = simp (ne_eqb _ _ c.if-a-b.false)
