-- `sheets::play::play_all` meets its contract: event after event, while the rest of the sheet tells what all of it does. Assumes nothing.
use Rattle.std.proofs.Common.{◌≡◌, ◌≤◌, ◌*◌, ◌+◌, ◌-◌}
use Rattle.chain.specs.Agree.{opened}
use Rattle.sheets.specs.Events.{rest_at}
use Rattle.sheets.specs.Play.{begun, played_of}
use Rattle.sheets.specs.Promises.{lent_of}
use Rattle.sheets.proofs.Playing.{Going}
use Rattle.sheets.proofs.play.play_all.Given as goal

abbrev pub invariant-loop : goal.invariant-loop
invariant-loop l = (l.sheet.at ≤ 16 + l.counter * 100565041) × (l.sheet.bytes.now ≡ l.bytes)
    × Going (lent_of l.initial.history l.initial.floats l.initial.ints l.curve) l.bytes
    (played_of (lent_of l.initial.history l.initial.floats l.initial.ints l.curve) (rest_at l.n l.bytes l.initial.sheet.at) (begun (opened l.initial.station l.initial.history) l.initial.framebuffer))
    l.counter (l.n - l.counter) l.sheet.at l.station l.framebuffer l.history l.initial.floats l.floats l.initial.ints l.ints l.accepted
