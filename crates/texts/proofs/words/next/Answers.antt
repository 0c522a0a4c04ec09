-- `texts::words::next` meets its contract. Assumes nothing.
use native.Mathlib.Omega.{arith}
use Rattle.texts.proofs.Spans.{spanned}
use Rattle.texts.proofs.words.next.Goals as goal

pub skip-from-requires : goal.skip-from-requires
skip-from-requires c = c.requires

pub stop-to-requires : goal.stop-to-requires
stop-to-requires c = c.skip-from.ensures.1

pub returns : goal.returns
returns c = (spanned _ _ _ _ c.skip-from.ensures.0 c.stop-to.ensures.0, omega (arith, c.stop-to.ensures.0), c.stop-to.ensures.1)
