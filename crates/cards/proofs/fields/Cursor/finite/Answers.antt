-- `cards::fields::Cursor::finite` meets its contract: the exponent's field tells whether it is finite. Assumes nothing.
use Rattle.std.proofs.Common.{sym}
use borrow.Author.Tests.{eq-eqb, ne_eqb}
use Rattle.cards.specs.Step.{refuse_if}
use Rattle.cards.specs.Settings.{finite_at}
use Rattle.cards.proofs.Reals.{finite_bits, no_nan}
use Rattle.cards.proofs.fields.Cursor.finite.Goals as goal

pub returns-then-bits-eq255-clause-value : goal.returns-then-bits-eq255-clause-value
unfolding finite_at refuse_if
returns-then-bits-eq255-clause-value c = simp (sym c.in_ok-bits.ensures.value, finite_bits, eq-eqb _ _ c.if-bits-eq255.true)

pub float_from_bits-result : goal.float_from_bits-result
float_from_bits-result c = no_nan _ (ne_eqb _ _ c.if-bits-eq255.false)

pub returns-clause-value : goal.returns-clause-value
unfolding finite_at refuse_if
returns-clause-value c = simp (sym c.in_ok-bits.ensures.value, finite_bits, ne_eqb _ _ c.if-bits-eq255.false)
