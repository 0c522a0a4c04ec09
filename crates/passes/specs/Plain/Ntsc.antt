-- NTSC at binary32: the text of ../Ntsc.antt over `plain`. Definitions only.
use Rattle.std.specs.Prelude.{ℕ, List, Float}
use Rattle.passes.specs as Text
use Rattle.passes.specs.Arith.{plain}
use Rattle.passes.specs.Painted.{Painted}
use Rattle.passes.specs.declared.pixel.Rgb.{Rgb}

abbrev pub chroma : ℕ → Rgb → Float
chroma = Text.Ntsc.chroma plain

abbrev pub sample : ℕ → List ℕ → ℕ → ℕ → ℕ → Float
sample = Text.Ntsc.sample plain

abbrev pub pixel : Float → Float → Float → ℕ → Rgb
pixel = Text.Ntsc.pixel plain

abbrev pub colour_at : ℕ → Float → ℕ → List ℕ → ℕ → ℕ → ℕ → Rgb
colour_at = Text.Ntsc.colour_at plain

abbrev pub ntsc : ℕ → Float → ℕ → List ℕ → Painted
ntsc = Text.Ntsc.ntsc plain
