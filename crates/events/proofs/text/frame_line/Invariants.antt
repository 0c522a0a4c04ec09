-- `events::text::frame_line` meets its contract: pixel after pixel, each in seven bytes that are lent. Assumes nothing.
use Rattle.events.proofs.Lines.{Shown}
use Rattle.events.proofs.text.frame_line.Given as goal

abbrev pub invariant-loop-i : goal.invariant-loop-i
invariant-loop-i l = Shown l.i l.frame l.initial.out l.out
