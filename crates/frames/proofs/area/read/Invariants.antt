-- `frames::area::read` meets its contract: byte after byte. Assumes nothing.
use Rattle.frames.proofs.Words.{Left}
use Rattle.frames.proofs.area.read.Given as goal

abbrev pub invariant-loop-b : goal.invariant-loop-b
invariant-loop-b l = Left l.text l.b-index l.r
