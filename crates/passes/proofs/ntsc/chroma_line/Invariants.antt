-- `passes::ntsc::chroma_line` meets its contract. Assumes nothing.
use Rattle.std.proofs.Common.{get_or}
use Rattle.passes.specs.Plain.Pixel.{unpack}
use Rattle.num.specs.Laws.Rewrite.{Rewritten}
use Rattle.passes.specs.Plain.Ntsc.{chroma}
use Rattle.passes.proofs.ntsc.chroma_line.Given as goal

abbrev pub invariant-loop-i : goal.invariant-loop-i
invariant-loop-i l = Rewritten l.i (λ k x. chroma l.which (unpack (get_or l.row k 0))) l.initial.out l.out
