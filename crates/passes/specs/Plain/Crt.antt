-- CRT at binary32: the text of ../Crt.antt over `plain`. Definitions only.
use Rattle.std.specs.Prelude.{ℕ, List, Float}
use Rattle.passes.specs as Text
use Rattle.passes.specs.Arith.{plain}
use Rattle.passes.specs.declared.pixel.Rgb.{Rgb}

abbrev pub beam : ℕ → Float → Float
beam = Text.Crt.beam plain

abbrev pub phosphor : ℕ → Float → Rgb → Rgb
phosphor = Text.Crt.phosphor plain

abbrev pub offset : ℕ → ℕ → Float
offset = Text.Crt.offset plain

abbrev pub edge : Float → Float → Float → Float
edge = Text.Crt.edge plain

abbrev pub shade : ℕ → Float → Float → ℕ → ℕ
shade = Text.Crt.shade plain

abbrev pub word_at : ℕ → ℕ → Float → ℕ → ℕ → ℕ → ℕ
word_at = Text.Crt.word_at plain

abbrev pub crt : ℕ → ℕ → Float → List ℕ → List ℕ
crt = Text.Crt.crt plain
