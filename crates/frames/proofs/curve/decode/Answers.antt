-- `frames::curve::decode` meets its contract. Assumes nothing.
use mathlib.Core.Path.{ap, ◌∙◌}
use native.Mathlib.Omega.{arith}
use lib.Ieee.{nan}
use Rattle.num.specs.Laws.Rewrite.{none, more}
use Rattle.frames.specs.Curve.{real_of}
use Rattle.frames.proofs.curve.decode.Goals as goal

pub loop-k-init : goal.loop-k-init
loop-k-init c = none _ _

pub loop-k-preserved : goal.loop-k-preserved
loop-k-preserved c = more c.loop-k.invariant nan (omega (arith, c.loop-k.invariant.kept, c.loop-k-test.true)) (c.real.ensures ∙ ap real_of c.pattern.ensures)
