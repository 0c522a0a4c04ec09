-- `passes::ntsc::chroma_line` meets its contract. Assumes nothing.
use Rattle.std.proofs.Common.{ap, ◌∙◌, arith}
use lib.Ieee.{nan}
use Rattle.num.specs.Laws.Rewrite.{none, more}
use Rattle.passes.specs.Plain.Ntsc.{chroma}
use Rattle.passes.proofs.ntsc.chroma_line.Goals as goal

pub loop-i-init : goal.loop-i-init
loop-i-init c = none _ _

pub loop-i-preserved : goal.loop-i-preserved
loop-i-preserved c = more c.loop-i.invariant nan (omega arith) (c.chroma.ensures ∙ ap (chroma c.args.which) c.unpack.ensures)
