-- `cards::writer::real_bits` meets its contract: what differs from itself is the NaN. Assumes nothing.
use mathlib.Core.Path.{ap, sym, refl, subst}
use lib.Dec.{T}
use lib.Ieee.{to_bits, binary32}
use lib.Ieee.Compare.{differs_from_itself}
use Rattle.cards.proofs.Reals.{is_number}
use Rattle.cards.proofs.writer.real_bits.Goals as goal

pub returns-then-x : goal.returns-then-x
unfolding to_bits
returns-then-x c = sym (ap (to_bits binary32) (differs_from_itself _ (subst T (sym c.if-x.true) tt)))

pub float_to_bits-result : goal.float_to_bits-result
unfolding to_bits
float_to_bits-result c = is_number _ c.if-x.false

pub returns : goal.returns
unfolding to_bits
returns c = refl
