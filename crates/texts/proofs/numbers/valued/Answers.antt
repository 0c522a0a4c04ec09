-- `texts::numbers::valued` meets its contract: both parts, and the nearest to them. Assumes nothing.
use borrow.Author.Rules.{rules}
use mathlib.Core.Path.{◌∙◌}
use Rattle.texts.proofs.Worths.{both_parts}
use Rattle.texts.proofs.numbers.valued.Goals as goal

pub lay-requires : goal.lay-requires
lay-requires c = (c.requires.1, search rules)

pub whole-requires : goal.whole-requires
whole-requires c = c.requires.0

pub nearest-requires : goal.nearest-requires
nearest-requires c = (c.lay.ensures.0, c.whole.ensures.1)

pub returns : goal.returns
returns c = c.nearest.ensures ∙ both_parts _ _ _ _ _ c.requires.1 c.whole.ensures.0 c.lay.ensures.1
