-- `texts::words::word` meets its contract. Assumes nothing.
use mathlib.Core.Path.{ap}
use Prim.Native.Nat.{◌-◌}
use lib.ListN.{take, drop}
use Rattle.texts.specs.Words.{word_of}
use Rattle.texts.specs.declared.words.Span.{Span}
use Rattle.texts.proofs.words.word.Goals as goal

pub returns : goal.returns
unfolding word_of
returns c = ap (λ (s : Span). take (s.to - s.from) (drop s.from c.args.line.now)) c.nth-from.ensures.0
