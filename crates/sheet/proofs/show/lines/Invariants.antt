-- `sheet::show::lines`: each turn reads an event, of which none is longer than the largest frame. Assumes nothing.
use Rattle.std.proofs.Common.{◌+◌, ◌*◌, ◌≤◌}
use Rattle.sheet.proofs.show.lines.Given as goal

abbrev pub invariant-loop-i : goal.invariant-loop-i
invariant-loop-i l = l.cursor.at ≤ 16 + l.i * 100565041
