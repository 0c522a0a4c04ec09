-- `inspect::nearest::nearest` meets its contract: the bits that were drawn, rounded, are the pattern of the nearest value. Assumes nothing.
use native.Mathlib.Omega.{arith}
use Rattle.cards.proofs.Reals.{no_nan}
use Rattle.inspect.proofs.Doubling.{in_word, finite_word, found}
use Rattle.inspect.proofs.nearest.nearest.Goals as goal

pub draw-leading-requires : goal.draw-leading-requires
draw-leading-requires c = c.requires

pub rounded-q-requires : goal.rounded-q-requires
rounded-q-requires c = (c.draw-leading.ensures.0.digits, c.draw-leading.ensures.0.small)

pub overflow_sub-result : goal.overflow_sub-result
overflow_sub-result c = c.draw-leading.ensures.0.few

pub overflow_add-result : goal.overflow_add-result
overflow_add-result c = omega (arith, in_word c.draw-leading.ensures.0 c.draw-leading.ensures.1 c.args.negative c.sign.ensures c.rounded-q.ensures)

pub overflow_add-result-2 : goal.overflow_add-result-2
overflow_add-result-2 c = omega (arith, in_word c.draw-leading.ensures.0 c.draw-leading.ensures.1 c.args.negative c.sign.ensures c.rounded-q.ensures)

pub float_from_bits-result : goal.float_from_bits-result
float_from_bits-result c = no_nan _ (finite_word c.draw-leading.ensures.0 c.draw-leading.ensures.1 c.args.negative c.sign.ensures c.rounded-q.ensures)

pub returns : goal.returns
returns c = found c.draw-leading.ensures.0 c.draw-leading.ensures.1 c.args.negative c.sign.ensures c.rounded-q.ensures
