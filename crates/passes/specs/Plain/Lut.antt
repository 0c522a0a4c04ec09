-- LUT at binary32: the text of ../Lut.antt over `plain`. Definitions only.
use Rattle.std.specs.Prelude.{ℕ, List, Float}
use Rattle.passes.specs as Text
use Rattle.passes.specs.Arith.{plain}
use Rattle.passes.specs.Painted.{Painted}
use Rattle.passes.specs.declared.pixel.Rgb.{Rgb}

abbrev pub transform : ℕ → Rgb → Rgb
transform = Text.Lut.transform plain

abbrev pub blend : Float → Float → Float → Float
blend = Text.Lut.blend plain

abbrev pub colour : ℕ → Float → ℕ → Rgb
colour = Text.Lut.colour plain

abbrev pub lut : ℕ → Float → List ℕ → Painted
lut = Text.Lut.lut plain
