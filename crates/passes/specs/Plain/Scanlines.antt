-- Scanlines at binary32: the text of ../Scanlines.antt over `plain`. Definitions only.
use Rattle.std.specs.Prelude.{ℕ, List, Float}
use Rattle.passes.specs as Text
use Rattle.passes.specs.Arith.{plain}

abbrev pub in_row : ℕ → Float → ℕ → ℕ
in_row = Text.Scanlines.in_row plain

abbrev pub word_at : Float → ℕ → ℕ → ℕ → ℕ
word_at = Text.Scanlines.word_at plain

abbrev pub scanlines : ℕ → Float → List ℕ → List ℕ
scanlines = Text.Scanlines.scanlines plain
