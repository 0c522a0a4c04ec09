-- What is proved of the encoding and of the states that the exports leave, as types: the proofs are in proofs/RoundTrip.antt, Lasting.antt and Closed.antt.
-- Assumes nothing.
use Rattle.std.specs.Prelude.{ℕ, ◌-◌, Bool, true, List, ◌≡◌, Float, length, drop, replicate}
use Rattle.cards.specs.Alike.{chain_of}
use Rattle.cards.specs.Answers.{ok}
use Rattle.chain.specs.Calls.{reset_reply, switch_reply, ask_reply, commit_reply, step_reply}
use Rattle.cards.specs.Card.{unused, accepted, open_of}
use Rattle.chain.specs.Machine.{Call, State, after}
use Rattle.cards.specs.Normal.{good_station}
use Rattle.cards.specs.Typed.{TypedChain}
use Rattle.cards.specs.declared.station.Station.{Station}
use Rattle.sheets.specs.Play.{Lent}
use Rattle.bridge.specs.Outcomes.{opening, on_state, depth_set, frame_shown}
use Rattle.bridge.specs.Cabinets.{cabinet_shown}
use Rattle.bridge.specs.Sheets.{play_shown}
use Rattle.bridge.specs.State.{encoded, station_in, is_state}

-- a good station of twelve typed records, whose places past n are filled as at every opening: they hold nothing
pub record Whole (s : Station) : Type 0 where
  pub good : good_station s ≡ true
  pub typed : TypedChain (chain_of s)
  pub twelve : length s.records ≡ 12
  pub rest : drop s.n s.records ≡ replicate (12 - s.n) unused

-- such a station is read back from its bytes
abbrev pub RoundTrip : Type 0
RoundTrip = (s : Station) → Whole s → (is_state (encoded s) ≡ true) × (station_in (encoded s) ≡ s)

-- opening gives such a station, and each call keeps it one: so a host that passes on what it got has a state
abbrev pub Lasting : Type 0
Lasting =
    ((card : List ℕ) (s : Station) → open_of card ≡ accepted s → Whole s)
    × ((c : Call) (s : State) → Whole s.station → Whole (after c s).station)

-- the same of states: each is of such a station, an accepted opening leaves a state, and each call leaves one where it got one
pub record Closed : Type 0 where
  pub of_station : (b : List ℕ) → is_state b ≡ true → Whole (station_in b)
  pub by_open : (card b : List ℕ) → ok (open_of card).answer ≡ true → is_state (opening card b).state ≡ true
  pub by_frame : (w h : ℕ) (b words past : List ℕ) (floats ints : ℕ) (curve : List Float) (old : List ℕ) → is_state b ≡ true
      → is_state (frame_shown w h b words past floats ints curve old).state ≡ true
  pub by_show : (w h : ℕ) (picture colours b words past : List ℕ) (floats ints : ℕ) (curve : List Float) (old : List ℕ) → is_state b ≡ true
      → is_state (cabinet_shown w h picture colours b words past floats ints curve old).state ≡ true
  pub by_reset : (b : List ℕ) → is_state b ≡ true → is_state (on_state reset_reply b).state ≡ true
  pub by_switch : (kind : ℕ) (on : Bool) (b : List ℕ) → is_state b ≡ true → is_state (on_state (switch_reply kind on) b).state ≡ true
  pub by_ask : (kind : ℕ) (on : Bool) (b : List ℕ) → is_state b ≡ true → is_state (on_state (ask_reply kind on) b).state ≡ true
  pub by_commit : (b : List ℕ) → is_state b ≡ true → is_state (on_state commit_reply b).state ≡ true
  pub by-step : (b : List ℕ) → is_state b ≡ true → is_state (on_state step_reply b).state ≡ true
  pub by-depth : (d : ℕ) (b past : List ℕ) → is_state b ≡ true → is_state (depth_set d b past).0.state ≡ true
  pub by_play : (l : Lent) (sheet b words past old : List ℕ) → is_state b ≡ true → is_state (play_shown l sheet b words past old).state ≡ true
