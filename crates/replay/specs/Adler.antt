-- The Adler-32 checksum of RFC 1950. Assumes nothing.
use Rattle.std.specs.Prelude.{ℕ, ◌+◌, ◌*◌, ◌%◌, List}
use Rattle.passes.specs.Fold.{fold}
use Rattle.replay.specs.declared.adler.Sums.{Sums}

abbrev pub sums : ℕ → ℕ → Sums
sums a b = record { a = a; b = b }

-- 65521 is the largest prime below 2 ^ 16
unfoldable pub add_byte : Sums → ℕ → Sums
add_byte s byte = sums ((s.a + byte) % 65521) ((s.b + (s.a + byte) % 65521) % 65521)

unfoldable pub adler_of : List ℕ → ℕ
adler_of bytes = let s : Sums = fold add_byte (sums 1 0) bytes in s.b * 65536 + s.a
