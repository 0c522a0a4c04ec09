-- Demand 3: whatever two stations went through, from the point of agreement of a shared list on they give the same. Assumes nothing.
use Rattle.std.specs.Prelude.{ℕ, suc, ◌*◌, ◌-◌, ◌≤◌, ◌≡◌, Bool, true, false, not, ◌&&◌, ◌||◌, cond, List, [], ◌∷◌, ◌++◌, eqb, length, take, drop, Float, Result}
use Rattle.num.specs.declared.refusal.Refusal.{Refusal}
use Rattle.passes.specs.declared.blur.Counts.{Counts}
use Rattle.std.specs.Bool.{beq}
use Rattle.cards.specs.Alike.{chain_of, switches}
use Rattle.chain.specs.Answers.{reported_frame, called, called_with, cycled, Applies}
use Rattle.cards.specs.Answers.{ok}
use Rattle.chain.specs.Calls.{reset_reply, switch_reply, ask_reply, commit_reply, step_reply, presets, depth_reply}
use Rattle.cards.specs.Card.{accepted, open_of}
use Rattle.chain.specs.Chain.{depth_on, depths}
use Rattle.chain.specs.Machine.{Call, frame, reset, switch, ask, commit, step, new_depth, State, Seen, seen, picture, lend, still, call, after, run, saw}
use Rattle.cards.specs.Normal.{persists}
use Rattle.cards.specs.Written.{card_of}
use Rattle.cards.specs.declared.station.Station.{Station}

-- ## Own lists, equal frames, lent words

-- an opened station, and a history buffer with any words
abbrev pub opened : Station → List ℕ → State
opened s history = record { station = s; history = history }

-- two lists with as many words, and, where these are n or more, the same first n: those past n may differ
pub record SameFirst {A : Type 0} (n : ℕ) (xs ys : List A) : Type 0 where
  pub same_length : length xs ≡ length ys
  pub same_first : n ≤ length xs → take n xs ≡ take n ys

-- Calls that two stations share. Frames are equal when width, height and all lent lengths are, and the first count words of the framebuffer, and the first
-- 256 of the curve.
pub data SameCall : Call → Call → Type 0 where
  frames : {w h lent floats ints : ℕ} {words other : List ℕ} {curve curve' : List Float} → SameFirst (h * w) words other → SameFirst 256 curve curve'
      → SameCall (frame w h words lent floats ints curve) (frame w h other lent floats ints curve')
  resets : SameCall reset reset
  switches_to : {kind : ℕ} {on : Bool} → SameCall (switch kind on) (switch kind on)
  asks : {kind : ℕ} {on : Bool} → SameCall (ask kind on) (ask kind on)
  commits : SameCall commit commit
  steps : SameCall step step
  new-depths : {d lent : ℕ} → SameCall (new_depth d lent) (new_depth d lent)

-- one shared list, as either station gets it
pub data Same : List Call → List Call → Type 0 where
  none : Same [] []
  more : {c d : Call} {cs ds : List Call} → SameCall c d → Same cs ds → Same (c ∷ cs) (d ∷ ds)

-- the history words lent to a call
abbrev pub lent : Call → ℕ
lent (frame w h words history floats ints curve) = history
lent reset = 0
lent (switch kind on) = 0
lent (ask kind on) = 0
lent commit = 0
lent step = 0
lent (new_depth d history) = history

-- each call lends no more words than an own buffer of n words has
abbrev pub Lends : ℕ → List Call → Type 0
Lends n [] = Unit {0}
Lends n (c ∷ cs) = (lent c ≤ n) × Lends n cs

-- ## The point of agreement

-- a persistence is in the chain and on
abbrev pub on : State → Bool
on s = persists (chain_of s.station)

-- an accepted frame that comes while one is on is taken
abbrev pub takes : State → Call → Bool
takes s (frame w h words history floats ints curve) = on s && ok (call (frame w h words history floats ints curve) s).gives.answer
takes s reset = false
takes s (switch kind position) = false
takes s (ask kind position) = false
takes s commit = false
takes s step = false
takes s (new_depth d history) = false

-- an accepted call after which none is on, where one was
abbrev pub switches_off : State → Call → Bool
switches_off s c = ok (call c s).gives.answer && (on s && not (on (after c s)))

-- a reset, or a switching-off, at once or committed
abbrev pub ends : State → Call → Bool
ends s (frame w h words history floats ints curve) = false
ends s reset = true
ends s (switch kind position) = switches_off s (switch kind position)
ends s (ask kind position) = false
ends s commit = switches_off s commit
ends s step = false
ends s (new_depth d history) = false

-- an accepted change of depth, to the present one too
abbrev pub changes : State → Call → Bool
changes s (frame w h words history floats ints curve) = false
changes s reset = false
changes s (switch kind position) = false
changes s (ask kind position) = false
changes s commit = false
changes s step = false
changes s (new_depth d history) = ok (call (new_depth d history) s).gives.answer

-- how many frames have still to be taken after a call, of k before it: a change of depth starts the count anew, with the depths of those that are on then
abbrev pub due : ℕ → State → Call → ℕ
due k s c = cond (changes s c) (depth_on (chain_of (after c s).station)) (cond (takes s c) (k - 1) k)

-- How many calls come before the point, while k frames have still to be taken. Where one station accepts a change of depth and the other
-- refuses it, since it holds larger frames, the list has no point: all of its calls come before.
unfoldable pub before : ℕ → (s t : State) → (cs ds : List Call) → ℕ
before k s t [] ds = 0
before k s t (c ∷ cs) [] = 0
before k s t (c ∷ cs) (d ∷ ds) =
    cond (eqb k 0 || ends s c) 0
    (suc (cond (beq (changes s c) (changes t d)) (before (due k s c) (after c s) (after d t) cs ds) (length cs)))

-- the first call where no persistence is on; else the call after as many taken frames, since the list began or the depth was changed, as the
-- depths of those that were on then come to, or the first reset or switching-off, if that comes sooner
unfoldable pub point : (s t : State) → (cs ds : List Call) → ℕ
point s t cs ds = cond (on s) (before (depth_on (chain_of s.station)) s t cs ds) 0

-- ## The agreement of two plain machines

-- comparable after the own lists, beside cards that normalise alike: the switch of each pass, the preset, if there is one, the depths, and what is asked for
-- are equal
pub record Comparable (s t : Station) : Type 0 where
  pub same_switches : switches s ≡ switches t
  pub same_presets : presets (chain_of s) ≡ presets (chain_of t)
  pub same_depths : depths (chain_of s) ≡ depths (chain_of t)
  pub same_pending : s.pending ≡ t.pending

abbrev pub Machines-agree : Type 0
Machines-agree =
    -- two accepted cards that normalise alike, with the stations that opening gives
    (card other : List ℕ) (a b : Station) → open_of card ≡ accepted a → open_of other ≡ accepted b → card_of a ≡ card_of b
    -- own history buffers of any size with any words, and own lists of any calls
    → (H G : List ℕ) (own own' : List Call) →
    let s : State = run (opened a H) own in
    let t : State = run (opened b G) own' in
    Comparable s.station t.station
    -- a shared list, whose calls lend words of either own buffer
    → (cs ds : List Call) → Same cs ds → Lends (length H) cs → Lends (length G) cs
    -- the point is one for both, and from it on each answer, returned station and picture is equal
    → (point s t cs ds ≡ point t s ds cs) × (drop (point s t cs ds) (saw s cs) ≡ drop (point s t cs ds) (saw t ds))

-- ## The same of calls that were made

-- A list of calls that were made, by what the functions promise alone: each got the station and the own buffer that the one
-- before it left. `gave` is what they gave, `t` what the last one left.
pub data Made : (s : State) → List Call → (gave : List Seen) → (t : State) → Type 0 where
  begin : {s : State} → Made s [] [] s
  -- `apply` with the first words of the own buffer, and scratches with any words
  by_apply : {s t : State} {cs : List Call} {gave : List Seen} {w h history : ℕ} {words ints words' past' ints' : List ℕ}
      {floats floats' curve : List Float} (r : Result Counts Refusal) (u : Station)
      → Applies w h s.station words (take history s.history) floats ints curve r u words' past' floats' ints'
      → Made (record { station = u; history = past' ++ drop history s.history }) cs gave t
      → Made s (frame w h words history (length floats) (length ints) curve ∷ cs)
      (seen (reported_frame r) u (picture (reported_frame r) (h * w) words') ∷ gave) t
  by_reset : {s t : State} {cs : List Call} {gave : List Seen} (r : Result (Unit {0}) Refusal) (u : Station) → called r u ≡ reset_reply s.station
      → Made (record { station = u; history = s.history }) cs gave t
      → Made s (reset ∷ cs) ((still s.history (called r u)).gives ∷ gave) t
  by-set_enabled : {s t : State} {cs : List Call} {gave : List Seen} {kind : ℕ} {position : Bool} (r : Result (Unit {0}) Refusal) (u : Station)
      → called r u ≡ switch_reply kind position s.station
      → Made (record { station = u; history = s.history }) cs gave t
      → Made s (switch kind position ∷ cs) ((still s.history (called r u)).gives ∷ gave) t
  by_ask : {s t : State} {cs : List Call} {gave : List Seen} {kind : ℕ} {position : Bool} (r : Result (Unit {0}) Refusal) (u : Station)
      → called r u ≡ ask_reply kind position s.station
      → Made (record { station = u; history = s.history }) cs gave t
      → Made s (ask kind position ∷ cs) ((still s.history (called r u)).gives ∷ gave) t
  by_commit : {s t : State} {cs : List Call} {gave : List Seen} (r : Result (Unit {0}) Refusal) (u : Station) → called r u ≡ commit_reply s.station
      → Made (record { station = u; history = s.history }) cs gave t
      → Made s (commit ∷ cs) ((still s.history (called r u)).gives ∷ gave) t
  by_cycle_lut : {s t : State} {cs : List Call} {gave : List Seen} (r : Result ℕ Refusal) (u : Station) → cycled r u ≡ step_reply s.station
      → Made (record { station = u; history = s.history }) cs gave t
      → Made s (step ∷ cs) ((still s.history (cycled r u)).gives ∷ gave) t
  -- with the first words of the own buffer
  by-set-depth : {s t : State} {cs : List Call} {gave : List Seen} {d history : ℕ} {past' : List ℕ} (r : Result (Unit {0}) Refusal) (u : Station)
      → called_with r u past' ≡ depth_reply d s.station (take history s.history)
      → Made (record { station = u; history = past' ++ drop history s.history }) cs gave t
      → Made s (new_depth d history ∷ cs) ((lend 0 history s.history (called_with r u past')).gives ∷ gave) t

-- what a list of calls gave and left is what the plain machine gives and leaves: each answer, returned station and picture, and the own buffer
abbrev pub Plain : State → List Call → List Seen → State → Type 0
Plain s cs gave t = (gave ≡ saw s cs) × (t ≡ run s cs)

-- so it is of every list of calls that were made
abbrev pub Made-is : Type 0
Made-is = (s t : State) (cs : List Call) (gave : List Seen) → Made s cs gave t → Plain s cs gave t

-- ## Demand 3

abbrev pub Demand-3 : Type 0
Demand-3 =
    -- two accepted cards that normalise alike, with the stations that opening gives
    (card other : List ℕ) (a b : Station) → open_of card ≡ accepted a → open_of other ≡ accepted b → card_of a ≡ card_of b
    -- own history buffers of any size with any words, and own lists of any calls, which gave `past` and left s and t
    → (H G : List ℕ) (own own' : List Call) (past past' : List Seen) (s t : State) → Made (opened a H) own past s → Made (opened b G) own' past' t
    -- then further calls, which gave `gave`
    → (cs ds : List Call) (gave gave' : List Seen) (u v : State) → Made s cs gave u → Made t ds gave' v
    -- in own and shared lists each answer, returned station and picture is the plain machine's
    → (Plain (opened a H) own past s × Plain (opened b G) own' past' t × Plain s cs gave u × Plain t ds gave' v)
    -- where the stations are comparable and the further calls are one shared list, whose calls lend words of either own buffer:
    -- the point is one for both, and from it on each answer, returned station and picture is equal
    × (Comparable s.station t.station → Same cs ds → Lends (length H) cs → Lends (length G) cs
    → (point s t cs ds ≡ point t s ds cs) × (drop (point s t cs ds) gave ≡ drop (point s t cs ds) gave'))
