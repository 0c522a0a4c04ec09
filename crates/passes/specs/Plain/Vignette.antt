-- Vignette at binary32: the text of ../Vignette.antt over `plain`. Definitions only.
use Rattle.std.specs.Prelude.{ℕ, List, Float}
use Rattle.passes.specs as Text
use Rattle.passes.specs.Arith.{plain}

abbrev pub offset_squared : ℕ → ℕ → Float
offset_squared = Text.Vignette.offset_squared plain

abbrev pub factor : Float → Float → Float
factor = Text.Vignette.factor plain

abbrev pub factor_at : ℕ → ℕ → Float → ℕ → ℕ → Float
factor_at = Text.Vignette.factor_at plain

abbrev pub vignette : ℕ → ℕ → Float → List ℕ → List ℕ
vignette = Text.Vignette.vignette plain
