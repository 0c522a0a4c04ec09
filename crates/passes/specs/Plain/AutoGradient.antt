-- Gradient at binary32: the text of ../AutoGradient.antt over `plain`. Definitions only.
use Rattle.std.specs.Prelude.{ℕ, List, Float}
use Rattle.passes.specs as Text
use Rattle.passes.specs.Arith.{plain}
use Rattle.passes.specs.Painted.{Painted}
use Rattle.passes.specs.declared.pixel.Rgb.{Rgb}

abbrev pub add_luma : Float → ℕ → Float
add_luma = Text.AutoGradient.add_luma plain

abbrev pub adaptive : Float → ℕ → Float → Float
adaptive = Text.AutoGradient.adaptive plain

abbrev pub warm : ℕ → ℕ → Float → Float → Float
warm = Text.AutoGradient.warm plain

abbrev pub fall : ℕ → Float → Float → ℕ → Float
fall = Text.AutoGradient.fall plain

abbrev pub brightness : Float → Float → Float
brightness = Text.AutoGradient.brightness plain

abbrev pub shade : Float → Float → ℕ → Rgb
shade = Text.AutoGradient.shade plain

abbrev pub colour_at : ℕ → ℕ → Float → Float → Float → ℕ → ℕ → ℕ → Rgb
colour_at = Text.AutoGradient.colour_at plain

abbrev pub shaded : ℕ → ℕ → Float → Float → Float → List ℕ → Painted
shaded = Text.AutoGradient.shaded plain

abbrev pub auto_gradient : ℕ → ℕ → Float → Float → Float → List ℕ → Painted
auto_gradient = Text.AutoGradient.auto_gradient plain
