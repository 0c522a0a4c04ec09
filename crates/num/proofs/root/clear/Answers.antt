-- `num::root::clear` meets its contract. Assumes nothing.
use mathlib.Core.Path.{refl}
use native.Mathlib.Omega.{arith}
use Rattle.num.specs.Laws.Rewrite.{none, more}
use Rattle.num.proofs.root.clear.Goals as goal

pub loop-i-init : goal.loop-i-init
loop-i-init c = none _ _

pub loop-i-preserved : goal.loop-i-preserved
loop-i-preserved c = more c.loop-i.invariant 0 (omega (arith, c.loop-i.invariant.kept, c.loop-i-test.true)) refl
