-- `sheets::pixels::one_by_one` meets its contract: word after word. Assumes nothing.
use mathlib.Core.Path.{refl}
use native.Mathlib.Omega.{arith}
use Rattle.num.specs.Laws.Rewrite.{none, all}
use Rattle.sheets.specs.Promises.{word_at}
use Rattle.sheets.proofs.Words.{one_more}
use Rattle.sheets.proofs.pixels.one_by_one.Goals as goal

pub loop-i-init : goal.loop-i-init
loop-i-init c = none _ _

pub put-requires : goal.put-requires
put-requires c = (c.loop-i-test.true, (c.requires.0, omega (arith, c.requires.1, c.loop-i.invariant.kept)))

pub loop-i-preserved : goal.loop-i-preserved
loop-i-preserved c = one_more (word_at c.args.sheet.now c.args.first c.args.below) c.loop-i.invariant refl c.loop-i-test.true c.put.ensures

pub shape_of-words : goal.shape_of-words
shape_of-words c = c.loop-i.invariant.kept

pub returns : goal.returns
returns c = all c.loop-i.invariant c.loop-i-test.false
