-- `sheet::files::count` meets its contract: 16 bits write a number below 65,536. Assumes nothing.
use mathlib.Core.Path.{ap}
use Rattle.std.specs.Result.{result_ok}
use Rattle.sheets.proofs.Reading.{answer_took, small}
use Rattle.sheet.proofs.files.count.Goals as goal

pub returns : goal.returns
returns c = small c.args.sheet.now 16 0 (answer_took c.field.result _ _ _ c.field.ensures.value (ap result_ok c.in-Ok.is))
