-- What the export that plays a sheet answers and leaves. Assumes nothing.
use Rattle.std.specs.Prelude.{ℕ, ◌≡◌, cond, List, Float, drop}
use Rattle.cards.specs.Answers.{left}
use Rattle.chain.specs.Agree.{opened}
use Rattle.sheets.specs.Play.{Lent, Playing, begun, Outcome, play_of}
use Rattle.sheets.specs.Promises.{lent_of}
use Rattle.bridge.specs.Outcomes.{damaged, Shown, shown, framed_number, framed_reports}
use Rattle.bridge.specs.State.{encoded, station_in, is_state}

-- played on the station of the state
abbrev pub played_on : Lent → (sheet b words past : List ℕ) → Outcome
played_on l sheet b words past = play_of l sheet (opened (station_in b) past) words

-- a refusal leaves the bytes and the place for the two numbers as they were
abbrev pub played_shown : (b old : List ℕ) → Outcome → Shown
played_shown b old o =
    shown (framed_number o.answer) (left o.answer b (encoded o.playing.state.station)) o.playing.words o.playing.state.history
    (framed_reports o.answer old)

unfoldable pub play_shown : Lent → (sheet b words past old : List ℕ) → Shown
play_shown l sheet b words past old = cond (is_state b) (played_shown b old (played_on l sheet b words past)) (shown damaged b words past old)

-- what was played: nothing, where the bytes are no state
unfoldable pub played_in : Lent → (sheet b words past : List ℕ) → Playing
played_in l sheet b words past = cond (is_state b) (played_on l sheet b words past).playing (begun (opened (station_in b) past) words)

-- what playing promises: the number, the state, the framebuffer, the history, the two numbers, and the scratch words that stay
pub record PlaysSheet (sheet b words past : List ℕ) (floats : List Float) (ints : List ℕ) (curve : List Float) (reports : List ℕ) (number : ℕ)
    (b' words' past' : List ℕ) (floats' : List Float) (ints' reports' : List ℕ) : Type 0 where
  pub replies : shown number b' words' past' reports' ≡ play_shown (lent_of past floats ints curve) sheet b words past reports
  pub floats_stay : let k : ℕ = (played_in (lent_of past floats ints curve) sheet b words past).free_floats in drop k floats' ≡ drop k floats
  pub ints_stay : let k : ℕ = (played_in (lent_of past floats ints curve) sheet b words past).free_ints in drop k ints' ≡ drop k ints
