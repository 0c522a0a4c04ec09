-- The plain machine of demand 3: a station with the words of its own history buffer, fed with calls. Assumes nothing.
use Rattle.std.specs.Prelude.{ℕ, ◌*◌, Bool, List, [], ◌∷◌, ◌++◌, Float, take, drop}
use Rattle.cards.specs.Answers.{Report, refusal, acceptance, Reply}
use Rattle.chain.specs.Calls.{reset_reply, switch_reply, ask_reply, commit_reply, step_reply, Framed, frame_reply, depth_reply}
use Rattle.cards.specs.declared.station.Station.{Station}

-- a frame brings its framebuffer and its curve; of the history, for a new depth too, and of both scratches, how many words are lent
pub data Call : Type 0 where
  frame : (w h : ℕ) (words : List ℕ) (history floats ints : ℕ) (curve : List Float) → Call
  reset : Call
  switch : (kind : ℕ) (on : Bool) → Call
  ask : (kind : ℕ) (on : Bool) → Call
  commit : Call
  step : Call
  new_depth : (d history : ℕ) → Call

pub record State : Type 0 where
  pub station : Station
  pub history : List ℕ

-- what a call gives: its answer, the returned station, and the picture of an accepted frame, else no word
pub record Seen : Type 0 where
  pub answer : Report
  pub station : Station
  pub picture : List ℕ

abbrev pub seen : Report → Station → List ℕ → Seen
seen answer s picture = record { answer = answer; station = s; picture = picture }

pub record Done : Type 0 where
  pub gives : Seen
  pub history : List ℕ

-- the first count words of the framebuffer after an accepted frame
abbrev pub picture : Report → ℕ → List ℕ → List ℕ
picture (refusal e) count words = []
picture (acceptance r) count words = take count words

-- after a frame, or a new depth, which shows no word: the lent words come back to the front of the own buffer
abbrev pub lend : (count lent : ℕ) → List ℕ → Framed → Done
lend count lent history r =
    record { gives = seen r.answer r.station (picture r.answer count r.words); history = r.past ++ drop lent history }

-- after any other call: no word of the own buffer has changed
abbrev pub still : List ℕ → Reply → Done
still history r = record { gives = seen r.answer r.station []; history = history }

unfoldable pub call : Call → State → Done
call (frame w h words lent floats ints curve) s =
    lend (h * w) lent s.history (frame_reply w h s.station words (take lent s.history) floats ints curve)
call reset s = still s.history (reset_reply s.station)
call (switch kind on) s = still s.history (switch_reply kind on s.station)
call (ask kind on) s = still s.history (ask_reply kind on s.station)
call commit s = still s.history (commit_reply s.station)
call step s = still s.history (step_reply s.station)
call (new_depth d lent) s = lend 0 lent s.history (depth_reply d s.station (take lent s.history))

unfoldable pub after : Call → State → State
after c s = record { station = (call c s).gives.station; history = (call c s).history }

-- what a list of calls leaves
unfoldable pub run : State → List Call → State
run s [] = s
run s (c ∷ cs) = run (after c s) cs

-- what each call of a list gives
unfoldable pub saw : State → List Call → List Seen
saw s [] = []
saw s (c ∷ cs) = (call c s).gives ∷ saw (after c s) cs
