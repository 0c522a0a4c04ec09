-- The blur along a line at binary32: the text of ../Blur.antt over `plain`. Definitions only.
use Rattle.std.specs.Prelude.{ℕ, Bool, Float}
use Rattle.passes.specs as Text
use Rattle.passes.specs.Arith.{plain}
pub use Rattle.passes.specs.Blur.{distance, inside}

abbrev pub weight : ℕ → ℕ → Float
weight = Text.Blur.weight plain

abbrev pub taken : Bool → Float → Float → Float
taken = Text.Blur.taken plain

abbrev pub step : (ℕ → Float → Float) → ℕ → ℕ → ℕ → ℕ → Float → Float
step = Text.Blur.step plain

abbrev pub total : (ℕ → Float → Float) → ℕ → ℕ → ℕ → ℕ → Float
total = Text.Blur.total plain

abbrev pub weighted : (ℕ → Float) → ℕ → ℕ → ℕ → Float
weighted = Text.Blur.weighted plain

abbrev pub weight_sum : ℕ → ℕ → ℕ → Float
weight_sum = Text.Blur.weight_sum plain

abbrev pub quotient : Float → Float → Float
quotient = Text.Blur.quotient plain

abbrev pub blur_at : (ℕ → Float) → ℕ → ℕ → ℕ → Float
blur_at = Text.Blur.blur_at plain

abbrev pub down : ℕ → ℕ → (ℕ → ℕ → Float) → ℕ → ℕ → Float
down = Text.Blur.down plain
