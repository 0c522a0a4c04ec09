-- `sheet::show::lines` is safe: no event is longer than the largest frame. Assumes nothing.
use Rattle.std.proofs.Common.{arith}
use Rattle.sheets.proofs.Reading.{read_took}
use Rattle.sheet.proofs.show.lines.Goals as goal

pub loop-i-preserved : goal.loop-i-preserved
loop-i-preserved c = let got = read_took c.loop-i.cursor.bytes.now _ _ c.read.result _ _ c.in-Some.is c.read.ensures.value in omega (arith, got.2)
