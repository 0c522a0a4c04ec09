-- `cards::writer::pack` meets its contract: byte after byte. Assumes nothing.
use Rattle.std.proofs.Common.{arith, ◌∙◌}
use Rattle.num.specs.Laws.Rewrite.{none, more, all}
use Rattle.cards.proofs.Packed.{pack-rewrite}
use Rattle.cards.proofs.writer.pack.Goals as goal

pub loop-j-init : goal.loop-j-init
loop-j-init c = none _ _

pub loop-j-preserved : goal.loop-j-preserved
loop-j-preserved c = more c.loop-j.invariant 0 (omega arith) c.byte_of.ensures

pub returns : goal.returns
returns c = all c.loop-j.invariant (omega arith) ∙ pack-rewrite _ _
