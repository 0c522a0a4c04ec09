-- Bloom at binary32: the text of ../Bloom.antt over `plain`. Definitions only.
use Rattle.std.specs.Prelude.{ℕ, List, Float}
use Rattle.passes.specs as Text
use Rattle.passes.specs.Arith.{plain}
use Rattle.passes.specs.Painted.{Painted}
use Rattle.passes.specs.declared.pixel.Rgb.{Rgb}

abbrev pub intensity : Float → Float → Float
intensity = Text.Bloom.intensity plain

abbrev pub bright : Float → Rgb → Rgb
bright = Text.Bloom.bright plain

abbrev pub bright_of : Float → ℕ → ℕ → Float
bright_of = Text.Bloom.bright_of plain

abbrev pub sample : Float → List ℕ → ℕ → ℕ → ℕ → ℕ → Float
sample = Text.Bloom.sample plain

abbrev pub horizontal : ℕ → ℕ → Float → List ℕ → ℕ → ℕ → ℕ → Float
horizontal = Text.Bloom.horizontal plain

abbrev pub vertical : ℕ → ℕ → (ℕ → ℕ → ℕ → Float) → ℕ → ℕ → Rgb
vertical = Text.Bloom.vertical plain

abbrev pub composite : Float → Rgb → ℕ → Rgb
composite = Text.Bloom.composite plain

abbrev pub over : ℕ → Float → ℕ → (ℕ → ℕ → ℕ → Float) → ℕ → ℕ → ℕ → Rgb
over = Text.Bloom.over plain

abbrev pub bloom : ℕ → ℕ → ℕ → Float → ℕ → List ℕ → Painted
bloom = Text.Bloom.bloom plain
