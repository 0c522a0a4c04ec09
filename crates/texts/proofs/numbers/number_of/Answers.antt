-- `texts::numbers::number_of` meets its contract: no number, or its parts. Assumes nothing.
use Rattle.texts.proofs.Shapes.{no_number, few-before, few-after, numbered}
use Rattle.texts.proofs.numbers.number_of.Goals as goal

pub is_number-requires : goal.is_number-requires
is_number-requires c = c.shape_of-s.ensures.1

pub returns-then-not-is_number : goal.returns-then-not-is_number
returns-then-not-is_number c = no_number _ _ c.shape_of-s.ensures c.is_number.ensures c.if-not-is_number.true

pub whole-requires : goal.whole-requires
whole-requires c = few-before _ _ c.shape_of-s.ensures c.is_number.ensures c.if-not-is_number.false

pub valued-requires : goal.valued-requires
valued-requires c = let s = c.shape_of-s.ensures in
    (few-before _ _ s c.is_number.ensures c.if-not-is_number.false, few-after _ _ s c.is_number.ensures c.if-not-is_number.false)

pub returns : goal.returns
returns c = numbered _ _ c.shape_of-s.ensures c.is_number.ensures c.if-not-is_number.false _ _ _ _ c.is_plain.ensures c.whole.ensures.0
    c.is_minus.ensures c.valued.ensures
