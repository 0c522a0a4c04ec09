-- `passes::vignette::squares` meets its contract. Assumes nothing.
use Rattle.std.proofs.Common.{ap, arith}
use lib.Ieee.{Float, nan}
use Rattle.num.specs.F32.{◌⊕◌}
use Rattle.num.specs.Laws.Rewrite.{none, more}
use Rattle.passes.proofs.vignette.squares.Goals as goal

pub loop-x-init : goal.loop-x-init
loop-x-init c = none _ _

pub loop-x-preserved : goal.loop-x-preserved
loop-x-preserved c = more c.loop-x.invariant nan (omega arith)
    (ap (λ (z : Float). z ⊕ c.args.yy) c.offset_squared.ensures)
