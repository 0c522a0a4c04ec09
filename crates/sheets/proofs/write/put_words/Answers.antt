-- `sheets::write::put_words` meets its contract: word after word. Assumes nothing.
use mathlib.Core.Path.{refl, ◌∙◌}
use native.Mathlib.Omega.{arith}
use Rattle.sheets.proofs.Writing.{no_word, word_more, all_words}
use Rattle.sheets.proofs.write.put_words.Goals as goal

pub loop-i-init : goal.loop-i-init
loop-i-init c = (omega arith, refl, no_word c.args.p c.args.pixels.now c.args.sheet.now)

pub put-requires : goal.put-requires
put-requires c = (omega arith, c.word-pixel.ensures.1, omega (arith, c.requires, c.loop-i.invariant.1), omega (arith, c.requires))

pub loop-i-preserved : goal.loop-i-preserved
loop-i-preserved c = let kept = c.put.auto.sheet ∙ c.loop-i.invariant.1 in (
  omega arith,
  kept,
  word_more c.args.p c.args.pixels.now c.loop-i.i (omega (arith, c.requires, kept, c.loop-i-test.true))
      c.word-pixel.ensures.0 c.put.ensures.1 c.loop-i.invariant.2 c.put.ensures.0,
)

pub shape_of-sheet : goal.shape_of-sheet
shape_of-sheet c = c.loop-i.invariant.1

pub returns : goal.returns
returns c = (all_words c.args.p c.args.pixels.now (omega (arith, c.loop-i.invariant.0)) c.loop-i.invariant.2, refl)
