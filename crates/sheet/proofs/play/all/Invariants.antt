-- `sheet::play::all` meets its contract: a turn for each event, of which none is longer than the largest frame. Assumes nothing.
use Rattle.std.proofs.Common.{◌≡◌, ◌+◌, ◌*◌, ◌≤◌}
use Rattle.sheet.proofs.play.all.Given as goal

abbrev pub invariant-loop : goal.invariant-loop
invariant-loop l = (l.accepted ≤ l.counter) × (l.cursor.at ≤ 16 + l.counter * 100565041) × (l.cursor.bytes.now ≡ l.sheet)
