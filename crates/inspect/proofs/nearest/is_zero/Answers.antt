-- `inspect::nearest::is_zero` meets its contract: a number is 0 where each digit is. Assumes nothing.
use Rattle.std.proofs.Common.{rules, eqb}
use Rattle.std.proofs.lemmas.List.Recursion.{and_is}
use Rattle.inspect.specs.Decimal.{number}
use Rattle.inspect.proofs.Doubling.{zero_none, zero_step}
use Rattle.inspect.proofs.nearest.is_zero.Goals as goal

pub returns : goal.returns
returns c = and_is (λ ds. eqb (number ds) 0) (λ d. eqb d 0) zero_none zero_step c.args.digits.now 0 _ (search rules) (search rules)
