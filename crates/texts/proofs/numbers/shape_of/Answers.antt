-- `texts::numbers::shape_of` meets its contract: place after place. Assumes nothing.
use Rattle.texts.proofs.Shapes.{shaped}
use Rattle.texts.proofs.numbers.shape_of.Goals as goal

pub digits_end-point-requires : goal.digits_end-point-requires
digits_end-point-requires c = c.start_of-start.ensures.1

pub behind_of-behind-requires : goal.behind_of-behind-requires
behind_of-behind-requires c = c.digits_end-point.ensures.1

pub digits_end-end-requires : goal.digits_end-end-requires
digits_end-end-requires c = c.behind_of-behind.ensures.2

pub returns : goal.returns
returns c = shaped _ _ _ _ _ c.start_of-start.ensures c.digits_end-point.ensures c.behind_of-behind.ensures c.digits_end-end.ensures
