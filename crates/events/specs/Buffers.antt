-- What is left in a buffer whose first bytes or words were written. Assumes nothing.
use Rattle.std.specs.Prelude.{ℕ, ◌≡◌, List, ◌++◌, length, drop}

-- the front of `out` was written with `text`, of n bytes; the rest stays
pub record Printed (text : List ℕ) (n : ℕ) (out out' : List ℕ) : Type 0 where
  pub size : n ≡ length text
  pub front : out' ≡ text ++ drop (length text) out
