-- `cards::writer::pack` meets its contract: byte after byte. Assumes nothing.
use Rattle.std.specs.Prelude.{ℕ, List, ◌*◌, drop}
use Rattle.num.specs.Laws.Rewrite.{Rewritten}
use Rattle.cards.specs.Written.{value_of}
use Rattle.cards.proofs.writer.pack.Given as goal

-- byte k of the bits
abbrev pub byte : List ℕ → ℕ → ℕ → ℕ
byte bits k b = value_of (drop (8 * k) bits) 8

abbrev pub invariant-loop-j : goal.invariant-loop-j
invariant-loop-j l = Rewritten l.j (byte l.bits) l.initial.buf l.buf
