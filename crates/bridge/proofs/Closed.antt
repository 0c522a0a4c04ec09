-- A host that passes on what it got has a state: the exports keep states. Assumes nothing.
use Prim.Native.Nat.{ℕ, zero, suc, ◌*◌}
use native.Mathlib.Omega.{arith}
use mathlib.Core.Path.{◌≡◌, refl, ap, sym, subst, ◌∙◌}
use mathlib.Core.Bool.{Bool, true, false}
use mathlib.Core.List.{List, [], ◌∷◌}
use lib.Ieee.{Float}
use lib.ListN.{length, drop, replicate, length-append, length-drop}
use lib.Seq.{length-take-le, take-length, take_at, drop_at}
use Rattle.cards.specs.Alike.{chain_of}
use Rattle.cards.specs.Bits.{value_at, field_at}
use Rattle.cards.specs.Answers.{Report, refusal, acceptance, ok, Reply, left}
use Rattle.chain.specs.Calls.{reset_reply, switch_reply, ask_reply, commit_reply, step_reply, stops, Framed, frame_reply, depth_reply}
use Rattle.cards.specs.Card.{header_at, station_at, accepted, opened_of, open_of}
use Rattle.chain.specs.Machine.{frame, reset, switch, ask, commit, step, new_depth, State, call, after}
use Rattle.cards.specs.Normal.{good_station}
use Rattle.cards.specs.Step.{Step, took, refused, refuse_if}
use Rattle.cards.specs.Typed.{TypedChain}
use Rattle.cards.specs.declared.station.Record.{Record}
use Rattle.cards.specs.declared.station.Station.{Station}
use Rattle.cards.specs.Laws.Good.{good}
use Rattle.num.specs.Laws.Bools.{both, false_true}
use Rattle.num.specs.Refusals.{unless}
use Rattle.cabinet.specs.Cabinet.{cabinet_reply}
use Rattle.cabinet.specs.Source.{source_stops, enlarged}
use Rattle.bridge.specs.Claims.{Whole, Closed}
use Rattle.sheets.specs.Events.{Event, sheet_at}
use Rattle.sheets.specs.Play as Played
use Rattle.sheets.specs.Play.{Lent, Playing, call_of, turn, turns, begun, played_of, play_of}
use Rattle.bridge.specs.Cabinets.{cabinet_shown}
use Rattle.bridge.specs.Sheets.{play_shown}
use Rattle.bridge.specs.Outcomes.{opening, on_state, depth_set, Shown, framed_on, frame_shown}
use Rattle.bridge.specs.State.{card_in, hold_in, station_in, encoded, same_bytes, is_state}
use Rattle.bridge.proofs.Bytes.{same_equal}
use Rattle.bridge.proofs.Lasting.{opened-whole, call-whole}
use Rattle.bridge.proofs.RoundTrip.{round_trip}
use Rattle.bridge.proofs.Sizes.{hold_long, hold_typed}

accepted-is : (card : List ℕ) → ok (open_of card).answer ≡ true → open_of card ≡ accepted (open_of card).station
unfolding open_of
accepted-is card = go (station_at card 0)
  where
    go : (t : Step Station) → ok (opened_of t).answer ≡ true → opened_of t ≡ accepted (opened_of t).station
    go (took s next) e = refl
    go (refused k) e = false_true e

-- ## A state is of a whole station

-- no card is empty
no_card : ok (open_of []).answer ≡ false
unfolding open_of station_at header_at field_at value_at refuse_if
no_card = refl

module _ (b : List ℕ) (card : ok (open_of (card_in b)).answer ≡ true) (same : same_bytes (encoded (station_in b)) b ≡ true) where
  -- so zeros, as which a bad station is encoded, are no state
  good_in : good_station (station_in b) ≡ true
  unfolding encoded
  good_in = go (good_station (station_in b)) refl
    where
      go : (t : Bool) → good_station (station_in b) ≡ t → t ≡ true
      go true e = refl
      go false e =
          let zeros : replicate 134 0 ≡ b = same_equal (replicate 134 0) b (rw e at same) in
          false_true (sym no_card ∙ ap (λ (l : List ℕ). ok (open_of (card_in l)).answer) zeros ∙ card)

  -- the card's station is whole, and so it is with what the bytes say that it holds
  whole_in : Whole (station_in b)
  whole_in =
      let s : Station = (open_of (card_in b)).station in
      let w = opened-whole (card_in b) s (accepted-is (card_in b) card) in
      let few = (good s w.good).few in
      let chain : List Record = hold_in 84 b (chain_of s) in
      let long : length chain ≡ s.n =
      hold_long 84 b (chain_of s) ∙ length-take-le s.n s.records (omega (arith, w.twelve, few)) in
      record {
        good = good_in;
        typed = subst TypedChain (sym (take_at chain _ s.n long)) (hold_typed 84 b (chain_of s) w.typed);
        twelve =
            length-append chain (drop s.n s.records) ∙ omega (arith, long, length-drop s.n s.records, w.twelve, few);
        rest = drop_at chain _ s.n long ∙ w.rest;
      }

state_whole : (b : List ℕ) → is_state b ≡ true → Whole (station_in b)
unfolding is_state
state_whole b e = let d = both (ok (open_of (card_in b)).answer) _ e in whole_in b d.0 d.1

-- ## What the exports leave

-- what holds of what each refusal gives and of what the call gives holds of either
by_refusal : {A : Type 0} (P : A → Type 0) (k : ℕ) {refused : ℕ → A} {done : A} → ((j : ℕ) → P (refused j)) → P done → P (unless k refused done)
unfolding unless
by_refusal P zero f d = d
by_refusal P (suc k) f d = f (suc k)

encoded_state : (s : Station) → Whole s → is_state (encoded s) ≡ true
encoded_state s w = (round_trip s w).0

left_state : (r : Report) (b new : List ℕ) → is_state b ≡ true → is_state new ≡ true → is_state (left r b new) ≡ true
left_state (refusal k) b new e f = e
left_state (acceptance r) b new e f = f

open_state : (card b : List ℕ) → ok (open_of card).answer ≡ true → is_state (opening card b).state ≡ true
unfolding opening
open_state card b e =
    let is = accepted-is card e in
    let s = (open_of card).station in
    rw (ap (λ (p : Reply). p.answer) is) (encoded_state s (opened-whole card s is))

-- a call that keeps the station whole leaves a state
on_state_lem : (f : Station → Reply) → ((s : Station) → Whole s → Whole (f s).station) → (b : List ℕ) → is_state b ≡ true → is_state (on_state f b).state ≡ true
unfolding on_state
on_state_lem f keeps b e =
    let s = station_in b in
    rw e (left_state (f s).answer b (encoded (f s).station) e (encoded_state (f s).station (keeps s (state_whole b e))))

-- a station with an own history, as the machine has it
abbrev with_past : Station → List ℕ → State
with_past s past = record { station = s; history = past }

reset_whole : (s : Station) → Whole s → Whole (reset_reply s).station
unfolding after call
reset_whole s w = call-whole reset (with_past s []) w

switch_whole : (kind : ℕ) (on : Bool) (s : Station) → Whole s → Whole (switch_reply kind on s).station
unfolding after call
switch_whole kind on s w = call-whole (switch kind on) (with_past s []) w

ask_whole : (kind : ℕ) (on : Bool) (s : Station) → Whole s → Whole (ask_reply kind on s).station
unfolding after call
ask_whole kind on s w = call-whole (ask kind on) (with_past s []) w

commit_whole : (s : Station) → Whole s → Whole (commit_reply s).station
unfolding after call
commit_whole s w = call-whole commit (with_past s []) w

step-whole : (s : Station) → Whole s → Whole (step_reply s).station
unfolding after call
step-whole s w = call-whole step (with_past s []) w

frame_whole : (w h : ℕ) (words past : List ℕ) (floats ints : ℕ) (curve : List Float) (s : Station) → Whole s
    → Whole (frame_reply w h s words past floats ints curve).station
unfolding after call
frame_whole w h words past floats ints curve s t =
    subst (λ (l : List ℕ). Whole (frame_reply w h s words l floats ints curve).station) (take-length past)
    (call-whole (frame w h words (length past) floats ints curve) (with_past s past) t)

-- a frame by what it replies, which keeps the station whole
framed_state : (f : Station → Framed) → ((s : Station) → Whole s → Whole (f s).station) → (b words past old : List ℕ) → is_state b ≡ true
    → is_state (framed_on f b words past old).state ≡ true
unfolding framed_on
framed_state f keeps b words past old e =
    let r : Framed = f (station_in b) in
    rw e (left_state r.answer b (encoded r.station) e (encoded_state r.station (keeps (station_in b) (state_whole b e))))

frame_state : (w h : ℕ) (b words past : List ℕ) (floats ints : ℕ) (curve : List Float) (old : List ℕ) → is_state b ≡ true
    → is_state (frame_shown w h b words past floats ints curve old).state ≡ true
unfolding framed_on frame_shown
frame_state w h b words past floats ints curve old e =
    framed_state (λ s. frame_reply w h s words past floats ints curve) (frame_whole w h words past floats ints curve) b words past old e

-- so does a source that is refused, by itself or by the station, and one that is shown
source_whole : (w h : ℕ) (picture colours words past : List ℕ) (floats ints : ℕ) (curve : List Float) (s : Station) → Whole s
    → Whole (cabinet_reply w h picture colours s words past floats ints curve).station
unfolding cabinet_reply
source_whole w h picture colours words past floats ints curve s t =
    by_refusal (λ (r : Framed). Whole r.station) (source_stops w h (length picture) (length colours)) (λ k. t)
    (by_refusal (λ (r : Framed). Whole r.station) (stops s (3 * w) (3 * h) (length words) (length past) floats ints curve) (λ k. t)
    (frame_whole (3 * w) (3 * h) (enlarged w h picture colours words) past floats ints curve s t))

show_state : (w h : ℕ) (picture colours b words past : List ℕ) (floats ints : ℕ) (curve : List Float) (old : List ℕ) → is_state b ≡ true
    → is_state (cabinet_shown w h picture colours b words past floats ints curve old).state ≡ true
unfolding cabinet_shown
show_state w h picture colours b words past floats ints curve old e =
    by_refusal (λ (o : Shown). is_state o.state ≡ true) (source_stops w h (length picture) (length colours)) (λ k. e)
    (framed_state (λ s. cabinet_reply w h picture colours s words past floats ints curve) (source_whole w h picture colours words past floats ints curve) b words past old e)

depth-whole : (d : ℕ) (past : List ℕ) (s : Station) → Whole s → Whole (depth_reply d s past).station
unfolding after call
depth-whole d past s t =
    subst (λ (l : List ℕ). Whole (depth_reply d s l).station) (take-length past) (call-whole (new_depth d (length past)) (with_past s past) t)

depth_state : (d : ℕ) (b past : List ℕ) → is_state b ≡ true → is_state (depth_set d b past).0.state ≡ true
unfolding depth_set
depth_state d b past e =
    let r : Framed = depth_reply d (station_in b) past in
    rw e (left_state r.answer b (encoded r.station) e (encoded_state r.station (depth-whole d past (station_in b) (state_whole b e))))

-- each event keeps the station whole, and so does a sheet, played or not
turns-whole : (l : Lent) (es : List Event) (p : Playing) → Whole p.state.station → Whole (turns l es p).state.station
unfolding turns turn
turns-whole l [] p t = t
turns-whole l (e ∷ es) p t = turns-whole l es (turn l e p) (call-whole (call_of l p.words e) p.state t)

play_whole : (l : Lent) (z : Step (List Event)) (p : Playing) → Whole p.state.station → Whole (played_of l z p).playing.state.station
play_whole l (took es q) p t = turns-whole l es p t
play_whole l (refused k) p t = t

play_state : (l : Lent) (sheet b words past old : List ℕ) → is_state b ≡ true → is_state (play_shown l sheet b words past old).state ≡ true
unfolding play_shown play_of
play_state l sheet b words past old e =
    let p : Playing = begun (with_past (station_in b) past) words in
    let o : Played.Outcome = played_of l (sheet_at sheet 0) p in
    let w = state_whole b e in
    rw (e, w.good)
    (left_state o.answer b (encoded o.playing.state.station) e (encoded_state o.playing.state.station (play_whole l (sheet_at sheet 0) p w)))

pub closed : Closed
closed =
    record {
      of_station = state_whole;
      by_open = open_state;
      by_frame = frame_state;
      by_show = show_state;
      by_reset = on_state_lem reset_reply reset_whole;
      by_switch = λ kind on. on_state_lem (switch_reply kind on) (switch_whole kind on);
      by_ask = λ kind on. on_state_lem (ask_reply kind on) (ask_whole kind on);
      by_commit = on_state_lem commit_reply commit_whole;
      by-step = on_state_lem step_reply step-whole;
      by-depth = depth_state;
      by_play = play_state;
    }
