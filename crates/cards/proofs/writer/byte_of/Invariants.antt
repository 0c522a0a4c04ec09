-- `cards::writer::byte_of` meets its contract: the value is what the first i bits of the byte write. Assumes nothing.
use Rattle.std.specs.Prelude.{◌≡◌, ◌*◌, ◌≤◌, drop}
use Rattle.cards.specs.Written.{value_of}
use Rattle.cards.proofs.writer.byte_of.Given as goal

abbrev pub invariant-loop-i : goal.invariant-loop-i
invariant-loop-i l = (l.i ≤ 8) × (l.value ≡ value_of (drop (8 * l.j) l.bits) l.i)
