-- Colour correction at binary32: the text of ../ColorCorrection.antt over `plain`. Definitions only.
use Rattle.std.specs.Prelude.{ℕ, List, Float}
use Rattle.passes.specs as Text
use Rattle.passes.specs.Arith.{plain}
use Rattle.passes.specs.Painted.{Painted}
use Rattle.passes.specs.declared.pixel.Rgb.{Rgb}

abbrev pub power : List Float → ℕ → Float
power = Text.ColorCorrection.power plain

abbrev pub share : ℕ → Float
share = Text.ColorCorrection.share plain

abbrev pub start : List Float → Float → ℕ → Float
start = Text.ColorCorrection.start plain

abbrev pub level : Float → Float → Float → Float
level = Text.ColorCorrection.level plain

abbrev pub saturate : Float → Rgb → Rgb
saturate = Text.ColorCorrection.saturate plain

abbrev pub colour : (ℕ → Float) → Float → Float → Float → ℕ → Rgb
colour = Text.ColorCorrection.colour plain

abbrev pub color_correction : List Float → Float → Float → Float → Float → List ℕ → Painted
color_correction = Text.ColorCorrection.color_correction plain
