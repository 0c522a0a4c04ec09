-- `inspect::nearest::rounded` meets its contract: the carry and the digits that are left say on which side of one half the rest is. Assumes nothing.
use borrow.Author.Tests.{eqb-true, eqb-false}
use mathlib.Core.Path.{◌∙◌, sym}
use native.Mathlib.Omega.{arith}
use Rattle.inspect.proofs.Doubling.{under-half, half, over-half}
use Rattle.inspect.proofs.nearest.rounded.Goals as goal

pub times-carry-requires : goal.times-carry-requires
times-carry-requires c = (c.requires.0, omega arith, omega arith)

pub returns-then-carry-eq0 : goal.returns-then-carry-eq0
returns-then-carry-eq0 c = under-half c.times-carry.ensures _ c.if-carry-eq0.true

pub is_zero-requires : goal.is_zero-requires
is_zero-requires c = c.times-carry.ensures.digits.long

pub returns-then-is_zero : goal.returns-then-is_zero
returns-then-is_zero c = half c.times-carry.ensures _ c.if-carry-eq0.false (eqb-true _ _ (sym c.is_zero.ensures ∙ c.if-is_zero.true))

pub returns : goal.returns
returns c = over-half c.times-carry.ensures _ c.if-carry-eq0.false (eqb-false _ _ (sym c.is_zero.ensures ∙ c.if-is_zero.false))
