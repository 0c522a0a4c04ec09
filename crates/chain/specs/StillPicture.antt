-- A still picture stays still: after a reset, a chain of persistence alone shows every accepted one of equal frames
-- with each channel c as c or one below c (passes' Still), through every rounding. Assumes nothing;
-- proofs/StillPicture.antt proves the claims.
use Rattle.std.specs.Prelude.{ℕ, ◌*◌, ◌≡◌, Bool, true, List, [], ◌∷◌, take, drop, Float}
use Rattle.num.specs.Held.{Held}
use Rattle.passes.specs.Still.{Still}
use Rattle.cards.specs.Answers.{ok}
use Rattle.chain.specs.Agree.{SameCall, Made}
use Rattle.cards.specs.Alike.{chain_of}
use Rattle.chain.specs.Machine.{Call, frame, reset, State, Seen, saw}
use Rattle.cards.specs.declared.station.Pass.TheVariants.{Persistence}
use Rattle.cards.specs.declared.station.Record.{Record}

-- a chain of persistence alone, on or off, whatever it holds
abbrev pub alone : Bool → Float → ℕ → Held → List Record
alone on amount depth held = record { on = on; pass = Persistence amount depth; held = held } ∷ []

-- every call of a list is equal to c
abbrev pub Repeats : Call → List Call → Type 0
Repeats c [] = Unit {0}
Repeats c (d ∷ ds) = SameCall c d × Repeats c ds

-- the picture of each accepted frame stands still beside `words`
abbrev pub AllStill : List ℕ → List Seen → Type 0
AllStill words [] = Unit {0}
AllStill words (x ∷ xs) = (ok x.answer ≡ true → Still words x.picture) × AllStill words xs

-- Any station whose chain is persistence alone, whatever its amount and depth and whatever it holds, with any words in its own buffer; a
-- reset, and then any number of equal frames. It is said of every one of them, not only from the frame K + 1 on: the
-- first is shown as it came and fills all K places.
abbrev pub Stays-still : Type 0
Stays-still =
    (s : State) (on : Bool) (amount : Float) (depth : ℕ) (held : Held) → chain_of s.station ≡ alone on amount depth held
    → (w h : ℕ) (words : List ℕ) (history floats ints : ℕ) (curve : List Float) (cs : List Call)
    → Repeats (frame w h words history floats ints curve) cs
    → AllStill (take (h * w) words) (drop 1 (saw s (reset ∷ cs)))

-- the same of calls that were made
abbrev pub Stays-still-made : Type 0
Stays-still-made =
    (s t : State) (on : Bool) (amount : Float) (depth : ℕ) (held : Held) → chain_of s.station ≡ alone on amount depth held
    → (w h : ℕ) (words : List ℕ) (history floats ints : ℕ) (curve : List Float) (cs : List Call)
    → Repeats (frame w h words history floats ints curve) cs
    → (gave : List Seen) → Made s (reset ∷ cs) gave t → AllStill (take (h * w) words) (drop 1 gave)
