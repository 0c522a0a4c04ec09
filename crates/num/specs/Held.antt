-- What the history of a station holds: the size of its frames, or nothing. A card's station says it, and persistence asks it. Assumes nothing.
use Rattle.std.specs.Prelude.{ℕ, ◌*◌, Bool, ◌&&◌, leb, eqb}
use Rattle.std.specs.Bool.{beq}
use Rattle.num.specs.declared.size.Size.{Size}

abbrev pub Held : Type 0
Held = Size

-- both sides are 0
abbrev pub nothing : Held
nothing = record { width = 0; height = 0 }

-- frames of that width and height
abbrev pub sized : (w h : ℕ) → Held
sized w h = record { width = w; height = h }

-- the words of one frame
abbrev pub area : Held → ℕ
area held = held.height * held.width

-- frames of one shape: neither side differs. A turned frame has as many words, and another shape
unfoldable pub same_held : Held → Held → Bool
same_held held other = eqb held.width other.width && eqb held.height other.height

-- no side above 1024, and both are 0 or neither is
unfoldable pub fine_held : Held → Bool
fine_held held = leb held.width 1024 && leb held.height 1024 && beq (eqb held.width 0) (eqb held.height 0)
