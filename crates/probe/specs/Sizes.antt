-- A size in two words: the width and the height. Assumes nothing.
use Rattle.std.specs.Prelude.{ℕ, List, get_or}
use Rattle.num.specs.Held.{Held, sized}

abbrev pub size_in : List ℕ → Held
size_in sides = sized (get_or sides 0 0) (get_or sides 1 0)
