-- No pass meets an operand that document 01 leaves undefined: a frame's reply is the same over any arithmetic that
-- agrees with the number steps where they are defined (passes' Arith). So no step of a picture gives a NaN or an
-- infinity, every operand of cut lies in 0..1023 and gives a channel of at most 255, every operand of round is finite,
-- every operand of the root is finite and not below 0, and each word that is read is in the frame. Definitions only;
-- proofs/Numbers.antt proves the claims.
use Rattle.std.specs.Prelude.{ℕ, ◌*◌, ◌≤◌, true, List, ◌≡◌, Float, length}
use Rattle.passes.specs.Arith.{Arith, Agrees}
use Rattle.passes.specs.Casts.{casts, checked}
use Rattle.passes.specs.ColorCorrection.{good_curve}
use Rattle.passes.specs.Flow.{Flow}
use Rattle.passes.specs.Rows.{Frame}
use Rattle.cards.specs.Alike.{chain_of}
use Rattle.chain.specs.Calls.{frame_reply_by, frame_reply}
use Rattle.chain.specs.Chain.{over_by, over, depth_of, reads}
use Rattle.cards.specs.Normal.{normal_pass}
use Rattle.cards.specs.Typed.{Typed, TypedChain}
use Rattle.cards.specs.declared.station.Pass.{Pass}
use Rattle.cards.specs.declared.station.Station.{Station}

-- each pass with normalised settings, over any words of a frame with sides up to 1024, and a good curve where it reads one
abbrev pub Pass-inside : Arith → Type 0
Pass-inside A =
    (w h : ℕ) (curve : List Float) (p : Pass) (x : Flow) → normal_pass p ≡ true → Typed p → Frame w h x.frame.words
    → depth_of p * length x.frame.words ≤ length x.past → (reads p ≡ true → good_curve curve ≡ true)
    → over_by A w h curve p x ≡ over w h curve p x

-- each call for a frame, whatever the station and what is lent: what the passes ask is what the refusals leave
abbrev pub Frame-inside : Arith → Type 0
Frame-inside A =
    (w h : ℕ) (s : Station) (words past : List ℕ) (floats ints : ℕ) (curve : List Float) → TypedChain (chain_of s)
    → frame_reply_by A w h s words past floats ints curve ≡ frame_reply w h s words past floats ints curve

abbrev pub Numbers-inside : Type 1
Numbers-inside = (A : Arith) → Agrees A → Pass-inside A × Frame-inside A

-- two such arithmetics: numbers left by Rust's `as u32` and joined by `|`, and numbers of which each step is checked
abbrev pub Casts-inside : Type 0
Casts-inside = Frame-inside casts

abbrev pub Checked-inside : Type 0
Checked-inside = Frame-inside checked
