-- `sheets::pixels::put` meets its contract: one word, at its place. Assumes nothing.
use mathlib.Core.Path.{ap}
use native.Mathlib.Omega.{arith}
use lib.ListN.{set}
use Rattle.sheets.proofs.pixels.put.Goals as goal

pub word-requires : goal.word-requires
word-requires c = (omega (arith, c.requires), omega (arith, c.requires))

pub returns : goal.returns
returns c = ap (set c.args.words.now c.args.i) c.word.ensures
