-- Bits laid down on a sheet at its place. Assumes nothing.
use Rattle.std.specs.Prelude.{ℕ, ◌+◌, List, ◌++◌, length, take, drop, replicate}
use Rattle.cards.specs.declared.writer.Sheet.{Sheet}

unfoldable pub lay : Sheet → List ℕ → Sheet
lay s bs = record { bits = take s.at s.bits ++ bs ++ drop (s.at + length bs) s.bits; at = s.at + length bs }

abbrev pub blank : Sheet
blank = record { bits = replicate 1608 0; at = 0 }
