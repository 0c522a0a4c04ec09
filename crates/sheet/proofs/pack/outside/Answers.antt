-- `sheet::pack::outside` meets its contract. Assumes nothing.
use borrow.Author.Tests.{eq-eqb, ne_eqb}
use Rattle.events.specs.Events as Events
use Rattle.sheet.proofs.pack.outside.Goals as goal

pub returns-then-side-eq0 : goal.returns-then-side-eq0
unfolding Events.outside
returns-then-side-eq0 c = simp (eq-eqb _ _ c.if-side-eq0.true)

pub returns : goal.returns
unfolding Events.outside
returns c = simp (ne_eqb _ _ c.if-side-eq0.false)
