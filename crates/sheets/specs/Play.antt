-- Playing a sheet: its calls on the plain machine of demand 3, one by one. Assumes nothing.
use Rattle.std.specs.Prelude.{ℕ, ◌+◌, ◌*◌, max, Bool, not, cond, List, [], ◌∷◌, ◌++◌, length, take, drop, Float}
use Rattle.cards.specs.Answers.{Report, refusal, acceptance, ok}
use Rattle.cards.specs.Normal.{good_station}
use Rattle.cards.specs.Step.{Step, took, refused}
use Rattle.chain.specs.Calls.{float_room}
use Rattle.chain.specs.Machine as Machine
use Rattle.chain.specs.Machine.{Call, State, call, after}
use Rattle.sheets.specs.Events.{Event, frame, reset, switch, step, ask, commit, sheet_at}

-- what is lent for all events: of the history and of both scratches, how many words; and the curve
pub record Lent : Type 0 where
  pub history : ℕ
  pub floats : ℕ
  pub ints : ℕ
  pub curve : List Float

-- The station and its history, the framebuffer, how many events were accepted and refused, and how many words of each scratch the accepted frames
-- asked for: those past them were not touched.
pub record Playing : Type 0 where
  pub state : State
  pub words : List ℕ
  pub accepted : ℕ
  pub refused : ℕ
  pub free_floats : ℕ
  pub free_ints : ℕ

-- the framebuffer with a frame's words at its start, as far as it goes
abbrev pub laid : (pixels words : List ℕ) → List ℕ
laid pixels words = take (length words) pixels ++ drop (length pixels) words

-- the call that an event is
abbrev pub call_of : Lent → (words : List ℕ) → Event → Call
call_of l words (frame w h pixels) = Machine.frame w h (laid pixels words) l.history l.floats l.ints l.curve
call_of l words reset = Machine.reset
call_of l words (switch kind on) = Machine.switch kind on
call_of l words step = Machine.step
call_of l words (ask kind on) = Machine.ask kind on
call_of l words commit = Machine.commit

-- the scratch words that an event asks for, where it is accepted
abbrev pub floats_of : Event → ℕ
floats_of (frame w h pixels) = float_room w h
floats_of reset = 0
floats_of (switch kind on) = 0
floats_of step = 0
floats_of (ask kind on) = 0
floats_of commit = 0

abbrev pub ints_of : Event → ℕ
ints_of (frame w h pixels) = h * w
ints_of reset = 0
ints_of (switch kind on) = 0
ints_of step = 0
ints_of (ask kind on) = 0
ints_of commit = 0

-- what its call answers
abbrev pub answer_of : Lent → Event → Playing → Report
answer_of l e p = (call (call_of l p.words e) p.state).gives.answer

-- one event: the picture of an accepted frame stands at the start of the framebuffer, and nothing else is written there
unfoldable pub turn : Lent → Event → Playing → Playing
turn l e p =
    let c : Call = call_of l p.words e in
    let shown : List ℕ = (call c p.state).gives.picture in
    let yes : Bool = ok (answer_of l e p) in
    record {
      state = after c p.state;
      words = shown ++ drop (length shown) p.words;
      accepted = p.accepted + cond yes 1 0;
      refused = p.refused + cond yes 0 1;
      free_floats = max p.free_floats (cond yes (floats_of e) 0);
      free_ints = max p.free_ints (cond yes (ints_of e) 0);
    }

unfoldable pub turns : Lent → List Event → Playing → Playing
turns l [] p = p
turns l (e ∷ es) p = turns l es (turn l e p)

-- before the first event
abbrev pub begun : State → (words : List ℕ) → Playing
begun s words = record { state = s; words = words; accepted = 0; refused = 0; free_floats = 0; free_ints = 0 }

-- what playing answers, and what it leaves
pub record Outcome : Type 0 where
  pub answer : Report
  pub playing : Playing

abbrev pub outcome : Report → Playing → Outcome
outcome answer p = record { answer = answer; playing = p }

-- how many were accepted, and how many refused
abbrev pub played : Playing → Outcome
played p = outcome (acceptance (p.accepted ∷ p.refused ∷ [])) p

abbrev pub played_of : Lent → Step (List Event) → Playing → Outcome
played_of l (took events next) p = played (turns l events p)
played_of l (refused k) p = outcome (refusal 20) p

-- the sheet is read whole before the first event
unfoldable pub play_of : Lent → (sheet : List ℕ) → State → (words : List ℕ) → Outcome
play_of l sheet s words = cond (not (good_station s.station)) (outcome (refusal 13) (begun s words)) (played_of l (sheet_at sheet 0) (begun s words))
