-- `inspect::decimal::spell` meets its contract: digit after digit, from the last. Assumes nothing.
use Prim.Native.Nat.{◌^◌, ◌<◌}
use mathlib.Core.Path.{◌∙◌, sym}
use borrow.Author.Rules.{rules}
use native.Mathlib.Nat.{lt_of_lt_of_le}
use native.Mathlib.Omega.{arith}
use lib.Dec.{lit≤}
use Rattle.inspect.proofs.Digits.{unspelled, spell_more, spelled_all}
use Rattle.inspect.proofs.decimal.spell.Goals as goal
use Rattle.inspect.proofs.decimal.spell.Lts as lts
use Rattle.inspect.proofs.decimal.spell.Reads as reads

small : (c : lts.Start reads.Pre reads.Post goal.the-invariant-loop-digit goal.the-decreases-loop-digit) → c.args.m < 10 ^ 150
small c =
    let word : c.args.m < 2 ^ 32 = search rules in
    lt_of_lt_of_le word (lit≤ tt)

pub loop-digit-init : goal.loop-digit-init
loop-digit-init c = unspelled _ _ c.requires

pub bounds-digits-digit-index : goal.bounds-digits-digit-index
bounds-digits-digit-index c = omega (arith, c.loop-digit.invariant.long)

pub loop-digit-preserved : goal.loop-digit-preserved
loop-digit-preserved c = spell_more c.loop-digit.invariant (omega (arith, c.requires, c.loop-digit-test.true))

pub shape_of-digits : goal.shape_of-digits
shape_of-digits c = c.loop-digit.invariant.long ∙ sym c.requires

pub returns : goal.returns
returns c = spelled_all c.loop-digit.invariant (omega (arith, c.requires, c.loop-digit-test.false)) (small c.before.before)
