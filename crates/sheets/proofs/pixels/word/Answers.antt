-- `sheets::pixels::word` meets its contract: 24 bits of four bytes. Assumes nothing.
use Rattle.sheets.proofs.Bytes.{word-is}
use Rattle.sheets.proofs.pixels.word.Goals as goal

pub returns : goal.returns
returns c = word-is c.args.sheet.now c.args.i c.args.below _ _ _ _ c.requires.1 c.at.ensures c.at-2.ensures
    c.at-3.ensures c.at-4.ensures
