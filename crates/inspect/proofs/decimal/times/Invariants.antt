-- `inspect::decimal::times` meets its contract: digit after digit, with the carry that is left. Assumes nothing.
use Rattle.inspect.proofs.Digits.{Multiplied}
use Rattle.inspect.proofs.decimal.times.Given as goal

abbrev pub invariant-loop-digit : goal.invariant-loop-digit
invariant-loop-digit l = Multiplied l.by l.more l.initial.digits l.digit-index l.carry l.digits
