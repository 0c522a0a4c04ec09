-- `inspect::nearest::draw` meets its contract: each doubling draws a bit. Assumes nothing.
use mathlib.Core.Path.{◌∙◌, sym}
use native.Mathlib.Omega.{arith}
use Rattle.inspect.proofs.Doubling.{drawn_none, drawn_more}
use Rattle.inspect.proofs.nearest.draw.Goals as goal

pub loop-a-init : goal.loop-a-init
loop-a-init c = drawn_none c.requires.0 c.requires.1

pub times-bit-requires : goal.times-bit-requires
times-bit-requires c = (c.loop-a.invariant.digits, omega arith, omega arith)

pub overflow_add-a : goal.overflow_add-a
overflow_add-a c = omega (arith, c.times-bit.ensures.small)

pub loop-a-smaller : goal.loop-a-smaller
loop-a-smaller c = omega arith

pub loop-a-preserved : goal.loop-a-preserved
loop-a-preserved c = drawn_more c.loop-a.invariant c.loop-a-test.true (omega arith) c.times-bit.ensures

pub shape_of-digits-else-k-lt149 : goal.shape_of-digits-else-k-lt149
shape_of-digits-else-k-lt149 c = c.loop-a.invariant.digits.long ∙ sym c.requires.0.long

pub returns-else-k-lt149 : goal.returns-else-k-lt149
returns-else-k-lt149 c = (c.loop-a.invariant, λ h. omega (arith, c.loop-a.invariant.few))

pub shape_of-digits-after-loop-a : goal.shape_of-digits-after-loop-a
shape_of-digits-after-loop-a c = c.loop-a.invariant.digits.long ∙ sym c.requires.0.long

pub returns-after-loop-a : goal.returns-after-loop-a
returns-after-loop-a c = (c.loop-a.invariant, λ h. absurd (omega arith))
