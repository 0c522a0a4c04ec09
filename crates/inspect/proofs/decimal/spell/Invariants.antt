-- `inspect::decimal::spell` meets its contract: digit after digit, from the last. Assumes nothing.
use Rattle.inspect.proofs.Digits.{Spelled}
use Rattle.inspect.proofs.decimal.spell.Given as goal

abbrev pub invariant-loop-digit : goal.invariant-loop-digit
invariant-loop-digit l = Spelled l.m l.digit-index l.rest l.digits
