-- `passes::bloom::bright_line` meets its contract. Assumes nothing.
use Rattle.std.proofs.Common.{ap, ◌∙◌, arith}
use lib.Ieee.{nan}
use Rattle.num.specs.Laws.Rewrite.{none, more}
use Rattle.passes.specs.Plain.Pixel.{channel}
use Rattle.passes.specs.Plain.Bloom.{bright}
use Rattle.passes.proofs.bloom.bright_line.Goals as goal

pub loop-i-init : goal.loop-i-init
loop-i-init c = none _ _

pub loop-i-preserved : goal.loop-i-preserved
loop-i-preserved c = let a = c.args in
    more c.loop-i.invariant nan (omega arith)
    (c.channel.ensures ∙ ap (channel a.which) (c.bright.ensures ∙ ap (bright a.threshold) c.unpack.ensures))
