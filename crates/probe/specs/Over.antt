-- A step over a slice: the first words of ys become f of those of xs, as far as both go. Assumes nothing.
use Rattle.std.specs.Prelude.{List, ℕ, length, get_or, Float}
use Rattle.std.specs.Float.{nan}
use Rattle.num.specs.Rewrite.{rewrite}

module _ {A : Type 0} where
  -- the word at place i, whatever stood there
  abbrev pub at : (Float → A) → List Float → ℕ → A → A
  at f xs i y = f (get_or xs i nan)

  abbrev pub over : (Float → A) → List Float → List A → List A
  over f xs ys = rewrite (length xs) (at f xs) ys
