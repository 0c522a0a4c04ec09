-- `texts::words::nth` meets its contract: word after word. Assumes nothing.
use Rattle.texts.proofs.Spans.{Passed}
use Rattle.texts.proofs.words.nth.Given as goal

abbrev pub invariant-loop : goal.invariant-loop
invariant-loop l = Passed l.line l.i l.word l.counter
