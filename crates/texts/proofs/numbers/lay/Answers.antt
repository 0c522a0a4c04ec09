-- `texts::numbers::lay` meets its contract: digit after digit. Assumes nothing.
use mathlib.Core.Path.{sym, ap, ◌∙◌}
use native.Mathlib.Omega.{arith}
use Rattle.texts.specs.Numbers.{digit}
use Rattle.texts.proofs.Worths.{laid_none, laid_more, laid_all}
use Rattle.texts.proofs.numbers.lay.Goals as goal

pub loop-i-init : goal.loop-i-init
loop-i-init c = laid_none _ _ c.requires.1

pub bounds-out-i : goal.bounds-out-i
bounds-out-i c = omega (arith, c.loop-i.invariant.long)

pub loop-i-preserved : goal.loop-i-preserved
loop-i-preserved c = laid_more c.loop-i.invariant c.loop-i-test.true (c.digit.ensures.0 ∙ ap digit c.byte_at.ensures, c.digit.ensures.1)

pub shape_of-out : goal.shape_of-out
shape_of-out c = c.loop-i.invariant.long ∙ sym c.requires.1

pub returns : goal.returns
returns c = laid_all c.loop-i.invariant c.loop-i-test.false c.requires.0
