-- `inspect::decimal::times` meets its contract: digit after digit, with the carry that is left. Assumes nothing.
use mathlib.Core.Path.{◌∙◌, sym}
use native.Mathlib.Omega.{arith}
use Rattle.inspect.proofs.Digits.{none, little, turn, done}
use Rattle.inspect.proofs.decimal.times.Goals as goal

pub loop-digit-init : goal.loop-digit-init
loop-digit-init c = none _ _ _ c.requires.0 c.requires.2

pub bounds-digits-digit-index : goal.bounds-digits-digit-index
bounds-digits-digit-index c = omega (arith, c.loop-digit.invariant.digits.long)

pub overflow_mul-v : goal.overflow_mul-v
overflow_mul-v c = let m = c.loop-digit.invariant in
    omega (arith, little _ _ _ (m.digits.each c.loop-digit.digit-index) c.requires.1 m.small)

pub overflow_add-v : goal.overflow_add-v
overflow_add-v c = let m = c.loop-digit.invariant in
    omega (arith, little _ _ _ (m.digits.each c.loop-digit.digit-index) c.requires.1 m.small)

pub loop-digit-preserved : goal.loop-digit-preserved
loop-digit-preserved c = turn c.loop-digit.invariant (omega (arith, c.requires.0.long, c.loop-digit-test.true))

pub shape_of-digits : goal.shape_of-digits
shape_of-digits c = c.loop-digit.invariant.digits.long ∙ sym c.requires.0.long

pub returns : goal.returns
returns c = done c.loop-digit.invariant c.requires.0 (omega (arith, c.requires.0.long, c.loop-digit-test.false))
