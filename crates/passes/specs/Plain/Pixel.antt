-- A pixel word and its channels at binary32: the text of ../Pixel.antt over `plain`. Definitions only.
use Rattle.std.specs.Prelude.{ℕ, Float}
use Rattle.passes.specs as Text
use Rattle.passes.specs.Arith.{plain}
use Rattle.passes.specs.declared.pixel.Rgb.{Rgb}

abbrev pub rgb : Float → Float → Float → Rgb
rgb x y z = record { r = x; g = y; b = z }

abbrev pub channels : (Float → Float) → Rgb → Rgb
channels = Text.Pixel.channels plain

abbrev pub scaled : Float → Rgb → Rgb
scaled = Text.Pixel.scaled plain

abbrev pub channel : ℕ → Rgb → Float
channel = Text.Pixel.channel plain

abbrev pub by_number : (ℕ → Float) → ℕ → Rgb
by_number = Text.Pixel.by_number plain

abbrev pub unpack : ℕ → Rgb
unpack = Text.Pixel.unpack plain

abbrev pub unit : ℕ → Rgb
unit = Text.Pixel.unit plain

abbrev pub pack : Rgb → ℕ
pack = Text.Pixel.pack plain

abbrev pub pack_nearest : Rgb → ℕ
pack_nearest = Text.Pixel.pack_nearest plain

abbrev pub pack_clamped : Rgb → ℕ
pack_clamped = Text.Pixel.pack_clamped plain

abbrev pub pack_unit : Rgb → ℕ
pack_unit = Text.Pixel.pack_unit plain

abbrev pub clip : Float → Float → ℕ
clip = Text.Pixel.clip plain

abbrev pub clips : Float → Rgb → ℕ
clips = Text.Pixel.clips plain

abbrev pub dim : Float → ℕ → ℕ
dim = Text.Pixel.dim plain

abbrev pub luma709 : Rgb → Float
luma709 = Text.Pixel.luma709 plain

abbrev pub luma601 : Rgb → Float
luma601 = Text.Pixel.luma601 plain
