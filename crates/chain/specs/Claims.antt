-- What is proved of single calls, as types: the proofs are in proofs/Untouched.antt and Asking.antt. Assumes nothing.
use Rattle.std.specs.Prelude.{ℕ, ◌*◌, Bool, true, false, List, map, ◌≡◌, Float, take, drop}
use Rattle.num.specs.Held.{area}
use Rattle.cards.specs.Alike.{chain_of}
use Rattle.cards.specs.Answers.{refusal}
use Rattle.chain.specs.Calls.{pend, first_held, first_depth, Framed, framed, frame_reply, depth_reply}
use Rattle.chain.specs.Chain.{depth}
use Rattle.chain.specs.Machine.{Call, frame, reset, switch, ask, commit, step, new_depth, State, call, after}
use Rattle.cards.specs.Normal.{good_station}
use Rattle.cards.specs.Settings.{one_at_least}
use Rattle.cards.specs.declared.station.Pending.{Pending}
use Rattle.cards.specs.declared.station.Pending.TheVariants.{Nothing, Switch}
use Rattle.cards.specs.declared.station.Station.{Station}

-- a refused call leaves the station and every word of its history buffer, and a refused frame its framebuffer too
abbrev pub Refused-keeps : Type 0
Refused-keeps =
    ((c : Call) (s : State) (k : ℕ) → (call c s).gives.answer ≡ refusal k → after c s ≡ s)
    × ((w h : ℕ) (s : Station) (words past : List ℕ) (floats ints : ℕ) (curve : List Float) (k : ℕ)
    → (frame_reply w h s words past floats ints curve).answer ≡ refusal k
    → frame_reply w h s words past floats ints curve ≡ framed (refusal k) s words past)

-- a frame, accepted or not, leaves the framebuffer past count, the history past K times count, and all passes of the station
abbrev pub Untouched : Type 0
Untouched =
    (w h : ℕ) (s : Station) (words past : List ℕ) (floats ints : ℕ) (curve : List Float) →
    let r : Framed = frame_reply w h s words past floats ints curve in
    let count : ℕ = h * w in
    (drop count r.words ≡ drop count words)
    × (drop (depth (chain_of s) * count) r.past ≡ drop (depth (chain_of s) * count) past)
    × (map (λ q. q.pass) r.station.records ≡ map (λ q. q.pass) s.records)

-- a new depth, accepted or not, leaves of the history the words of the places that the first persistence has, the words past those that it has then, and what
-- that one holds
abbrev pub Depth-leaves : Type 0
Depth-leaves =
    (d : ℕ) (s : Station) (past : List ℕ) →
    let r : Framed = depth_reply d s past in
    let count : ℕ = area (first_held (chain_of s)) in
    (take (first_depth (chain_of s) * count) r.past ≡ take (first_depth (chain_of s) * count) past)
    × (drop (one_at_least d * count) r.past ≡ drop (one_at_least d * count) past)
    × (first_held (chain_of r.station) ≡ first_held (chain_of s))

-- ## Switches that are asked for

-- a station of which that is asked, with its own buffer
abbrev pub asked : Pending → State → State
asked q s = record { station = pend q s.station; history = s.history }

-- whether a call is asking or committing
abbrev pub is_asking : Call → Bool
is_asking (frame w h words history floats ints curve) = false
is_asking reset = false
is_asking (switch kind on) = false
is_asking (ask kind on) = true
is_asking commit = true
is_asking step = false
is_asking (new_depth d history) = false

-- every other call leaves what is asked for; asking changes nothing else; and a good station commits a switch as it makes one at once, with the
-- same answer, and has nothing asked of it then
abbrev pub Asking : Type 0
Asking =
    ((c : Call) (s : State) → is_asking c ≡ false → (after c s).station.pending ≡ s.station.pending)
    × ((kind : ℕ) (on : Bool) (s : State) → after (ask kind on) s ≡ asked (after (ask kind on) s).station.pending s)
    × ((kind : ℕ) (on : Bool) (s : State) → good_station s.station ≡ true → s.station.pending ≡ Switch kind on
    → ((call commit s).gives.answer ≡ (call (switch kind on) s).gives.answer) × (after commit s ≡ asked Nothing (after (switch kind on) s)))
