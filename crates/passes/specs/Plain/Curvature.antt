-- Curvature at binary32: the text of ../Curvature.antt over `plain`. Definitions only.
use Rattle.std.specs.Prelude.{ℕ, Bool, List, Float}
use Rattle.passes.specs as Text
use Rattle.passes.specs.Arith.{plain}

abbrev pub outside : Float → Bool
outside = Text.Curvature.outside plain

abbrev pub sample : ℕ → ℕ → List ℕ → Float → Float → ℕ
sample = Text.Curvature.sample plain

abbrev pub bend : ℕ → ℕ → Float → List ℕ → Float → Float → ℕ
bend = Text.Curvature.bend plain

abbrev pub word_at : ℕ → ℕ → Float → List ℕ → ℕ → ℕ → ℕ → ℕ
word_at = Text.Curvature.word_at plain

abbrev pub bent : ℕ → ℕ → Float → List ℕ → List ℕ → List ℕ
bent = Text.Curvature.bent plain

abbrev pub curvature : ℕ → ℕ → Float → List ℕ → List ℕ
curvature = Text.Curvature.curvature plain
