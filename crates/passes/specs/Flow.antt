-- What goes through the chain from frame to frame: the frame as it is painted so far, what the history holds, and the lent
-- history. Assumes nothing.
use Rattle.std.specs.Prelude.{ℕ, List}
use Rattle.num.specs.Held.{Held}
use Rattle.passes.specs.Painted.{Painted}

-- the older frame j stands at word j * area held of `past`, newest first
pub record Flow : Type 0 where
  pub frame : Painted
  pub held : Held
  pub past : List ℕ

abbrev pub flow : Painted → Held → List ℕ → Flow
flow frame held past = record { frame = frame; held = held; past = past }
