-- Persistence at binary32: the text of ../Persistence.antt over `plain`. Definitions only.
use Rattle.std.specs.Prelude.{ℕ, List, Float}
use Rattle.num.specs.Held.{Held}
use Rattle.passes.specs as Text
use Rattle.passes.specs.Arith.{plain}
use Rattle.passes.specs.Painted.{Painted}
use Rattle.passes.specs.Flow.{Flow}
use Rattle.passes.specs.declared.pixel.Rgb.{Rgb}
unfoldable pub use Rattle.passes.specs.Persistence.{copies, refilled, shifted, resized}

abbrev pub decay : Float → ℕ → Float
decay = Text.Persistence.decay plain

abbrev pub total : Float → ℕ → Float
total = Text.Persistence.total plain

abbrev pub weight : Float → Float → ℕ → Float
weight = Text.Persistence.weight plain

abbrev pub add : Rgb → Float → ℕ → Rgb
add = Text.Persistence.add plain

abbrev pub mix : Float → (ℕ → Float) → List ℕ → (n i p : ℕ) → ℕ → Rgb
mix = Text.Persistence.mix plain

abbrev pub blend : Float → ℕ → (past frame : List ℕ) → Painted
blend = Text.Persistence.blend plain

abbrev pub persistence : Float → ℕ → Held → Flow → Flow
persistence = Text.Persistence.persistence plain
