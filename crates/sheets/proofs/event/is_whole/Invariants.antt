-- `sheets::event::is_whole` meets its contract: after each event the rest of the sheet tells as much as all of it. Assumes nothing.
use Rattle.std.proofs.Common.{◌≡◌, ◌+◌, ◌<◌, ◌-◌, ◌*◌, ◌≤◌}
use Rattle.sheets.specs.Events.{rest_at, sheet_at}
use Rattle.sheets.specs.Promises.{is_taken}
use Rattle.sheets.proofs.event.is_whole.Given as goal

abbrev pub invariant-loop : goal.invariant-loop
invariant-loop l = (l.n < 65536) × (l.cursor.at ≤ 16 + l.counter * 100565041)
    × (is_taken (sheet_at l.fn.sheet 0) ≡ is_taken (rest_at (l.n - l.counter) l.cursor.bytes.now l.cursor.at))
