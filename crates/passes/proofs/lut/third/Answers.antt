-- `passes::lut::third` meets its contract: three times a word's luma is from +0 to 9. Assumes nothing.
use Rattle.std.proofs.Common.{ap, ◌∙◌}
use lib.Ieee.{Float}
use Rattle.num.specs.Const.{c3_0}
use Rattle.num.specs.F32.{◌⊗◌}
use Rattle.num.specs.Steps.{cut_of, round_of}
use Rattle.passes.proofs.Thirds.{third-is}
use Rattle.passes.proofs.lut.third.Goals as goal

pub returns : goal.returns
returns c = third-is c.args.c c.requires c.nearest.result
    (c.nearest.ensures.value ∙ ap (λ (y : Float). cut_of (round_of (y ⊗ c3_0))) c.luma601.ensures)
