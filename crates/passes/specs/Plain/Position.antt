-- Where a place lies along a side at binary32: the text of ../Position.antt over `plain`. Definitions only.
use Rattle.std.specs.Prelude.{ℕ, Float}
use Rattle.passes.specs as Text
use Rattle.passes.specs.Arith.{plain}

abbrev pub position : ℕ → ℕ → Float
position = Text.Position.position plain
