-- `cards::check::is_settled` meets its contract. Assumes nothing.
use mathlib.Core.Path.{ap, sym, subst}
use borrow.Author.Tests.{eq-eqb, ne_eqb}
use lib.Dec.{T}
use lib.Ieee.{binary32, fits}
use lib.Ieee.Compare.{differs_from_itself}
use Rattle.cards.specs.Normal.{settled}
use Rattle.cards.proofs.Reals.{is_number, finite_of_bits, neg_bits}
use Rattle.cards.proofs.check.is_settled.Goals as goal
use Rattle.cards.proofs.check.is_settled.Lts as lts
use Rattle.cards.proofs.check.is_settled.Reads as reads

-- what owning an `f32` tells: the format holds it
held : (c : lts.Start reads.Pre reads.Post) → T (fits binary32 c.args.x)
held c = subst T (sym c.well_formed.1.1.0.1) tt

pub returns-then-x : goal.returns-then-x
unfolding settled
returns-then-x c = sym (ap (settled _ _) (differs_from_itself _ (subst T (sym c.if-x.true) tt)))

pub float_to_bits-bits : goal.float_to_bits-bits
float_to_bits-bits c = is_number _ c.if-x.false

pub returns-then-bits-eq255 : goal.returns-then-bits-eq255
unfolding settled
returns-then-bits-eq255 c = simp (finite_of_bits _ (held c.before.before), eq-eqb _ _ c.if-bits-eq255.true)

pub returns-then-x-low : goal.returns-then-x-low
unfolding settled
returns-then-x-low c = simp (finite_of_bits _ (held c.before.before.before), ne_eqb _ _ c.if-bits-eq255.false, c.if-x-low.true)

pub returns-then-high-x : goal.returns-then-high-x
unfolding settled
returns-then-high-x c = simp (finite_of_bits _ (held c.before.before.before.before), ne_eqb _ _ c.if-bits-eq255.false, c.if-x-low.false, c.if-high-x.true)

pub returns : goal.returns
unfolding settled
returns c = simp (finite_of_bits _ (held c.before.before.before.before), ne_eqb _ _ c.if-bits-eq255.false, c.if-x-low.false, c.if-high-x.false, neg_bits _ (held c.before.before.before.before))
