-- `cards::writer::Sheet::put` meets its contract. The invariant: the first i bits are pasted. Assumes nothing.
use Rattle.std.specs.Prelude.{◌≡◌, ◌≤◌}
use lib.Seq.{paste}
use Rattle.cards.specs.Written.{bits as bits_of}
use Rattle.cards.proofs.writer.Sheet.put.Given as goal

abbrev pub invariant-loop-i : goal.invariant-loop-i
invariant-loop-i l =
    (l.i ≤ l.width) × (l.self.at ≡ l.initial.self.at) × (l.self.bits ≡ paste l.initial.self.bits l.initial.self.at (bits_of l.width l.v) l.i)
