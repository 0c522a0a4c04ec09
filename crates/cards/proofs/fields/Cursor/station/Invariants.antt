-- `cards::fields::Cursor::station` meets its contract: the loop's invariant is `Done`. Assumes nothing.
use Rattle.std.specs.Prelude.{◌≡◌}
use Rattle.cards.proofs.Opening.{Done}
use Rattle.cards.proofs.fields.Cursor.station.Given as goal

abbrev pub invariant-loop-i : goal.invariant-loop-i
invariant-loop-i l = Done l.fn.self.bytes.now l.n l.initial.self.at l.records l.self.at l.i × (l.self.bytes ≡ l.fn.self.bytes)
