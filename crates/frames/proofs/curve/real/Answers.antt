-- `frames::curve::real` meets its contract: the exponent's field tells whether the number is finite. Assumes nothing.
use borrow.Author.Tests.{eq-eqb, ne_eqb}
use lib.Ieee.{of_bits, div}
use Rattle.cards.proofs.Reals.{finite_bits, no_nan}
use Rattle.frames.specs.Curve.{real_of}
use Rattle.frames.proofs.curve.real.Goals as goal

pub returns-then-bits-eq255 : goal.returns-then-bits-eq255
unfolding real_of div of_bits
returns-then-bits-eq255 c = simp (finite_bits, eq-eqb _ _ c.if-bits-eq255.true)

pub float_from_bits-result : goal.float_from_bits-result
float_from_bits-result c = no_nan _ (ne_eqb _ _ c.if-bits-eq255.false)

pub returns : goal.returns
unfolding real_of
returns c = simp (finite_bits, ne_eqb _ _ c.if-bits-eq255.false)
