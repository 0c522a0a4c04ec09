-- What the exports answer and leave: each is a call of cards or chain on the station of the state, through the one encoding. The number is what the call
-- reports, 0 where it reports nothing, or 256 and the refusal's number; what a frame reports goes to a place of its own, since it may be above 255. Assumes
-- nothing.
use Rattle.std.specs.Prelude.{ℕ, ◌+◌, ◌*◌, ◌≡◌, cond, List, eqb, Float, length, drop, Result}
use Rattle.cards.specs.Alike.{chain_of}
use Rattle.cards.specs.Answers.{Report, refusal, acceptance, Reply, reply, told, left}
use Rattle.chain.specs.Answers.{reported_frame}
use Rattle.chain.specs.Calls.{float_room, Framed, frame_reply, depth_reply, enabled_report, preset_report}
use Rattle.cards.specs.Card.{open_of}
use Rattle.chain.specs.Chain.{depth}
use Rattle.cards.specs.Write.{write_reply, write_into}
use Rattle.cards.specs.declared.station.Station.{Station}
use Rattle.num.specs.declared.refusal.Refusal.{Refusal}
use Rattle.passes.specs.declared.blur.Counts.{Counts}
use Rattle.bridge.specs.State.{encoded, station_in, is_state}

-- the number of a call, and the state that it leaves
pub record Outcome : Type 0 where
  pub number : ℕ
  pub state : List ℕ

abbrev pub outcome : ℕ → List ℕ → Outcome
outcome number state = record { number = number; state = state }

abbrev pub answered : List ℕ → Reply → Outcome
answered b r = outcome (told r.answer) (left r.answer b (encoded r.station))

-- refusal 13 of bytes that are no state
abbrev pub damaged : ℕ
damaged = 269

unfoldable pub opening : (card b : List ℕ) → Outcome
opening card b = answered b (open_of card)

-- a call on the station of the state
unfoldable pub on_state : (Station → Reply) → List ℕ → Outcome
on_state f b = cond (is_state b) (answered b (f (station_in b))) (outcome damaged b)

-- a question of the station of the state, whose bytes are lent to be read alone
unfoldable pub question_of : (Station → ℕ) → List ℕ → ℕ
question_of f b = cond (is_state b) (f (station_in b)) damaged

-- document 01's K
abbrev pub depth_told : List ℕ → ℕ
depth_told = question_of (λ s. depth (chain_of s))

abbrev pub enabled_told : ℕ → List ℕ → ℕ
enabled_told kind = question_of (λ s. told (enabled_report kind s))

abbrev pub preset_told : List ℕ → ℕ
preset_told = question_of (λ s. told (preset_report s))

-- ## A new depth

-- what a call leaves that is lent the history alone
abbrev pub answered_with : List ℕ → Framed → Outcome × List ℕ
answered_with b r = (answered b (reply r.answer r.station), r.past)

unfoldable pub depth_set : (d : ℕ) → (b past : List ℕ) → Outcome × List ℕ
depth_set d b past = cond (is_state b) (answered_with b (depth_reply d (station_in b) past)) (outcome damaged b, past)

-- ## Writing

unfoldable pub write_told : (b buf : List ℕ) → ℕ
write_told b buf = cond (is_state b) (told (write_reply (station_in b) buf).answer) damaged

unfoldable pub write_left : (b buf : List ℕ) → List ℕ
write_left b buf = cond (is_state b) (write_into (station_in b) buf) buf

-- ## Frame

-- `reports` is what stands in the place for what it reports
pub record Shown : Type 0 where
  pub number : ℕ
  pub state : List ℕ
  pub words : List ℕ
  pub past : List ℕ
  pub reports : List ℕ

abbrev pub shown : ℕ → (state words past reports : List ℕ) → Shown
shown number state words past reports = record { number = number; state = state; words = words; past = past; reports = reports }

abbrev pub framed_number : Report → ℕ
framed_number (refusal k) = 256 + k
framed_number (acceptance r) = 0

-- a refusal leaves that place as it was
abbrev pub framed_reports : Report → List ℕ → List ℕ
framed_reports (refusal k) old = old
framed_reports (acceptance r) old = r

abbrev pub framed_shown : (b old : List ℕ) → Framed → Shown
framed_shown b old r =
    shown (framed_number r.answer) (left r.answer b (encoded r.station)) r.words r.past (framed_reports r.answer old)

-- how the answer of a frame is kept: the number that is told, the state, and what is reported
abbrev pub Kept : (b old : List ℕ) → Result Counts Refusal → Station → (number : ℕ) → (b' new : List ℕ) → Type 0
Kept b old r s number b' new =
    let a = reported_frame r in (number ≡ framed_number a) × (b' ≡ left a b (encoded s)) × (new ≡ framed_reports a old)

-- a frame on the station of the state, by what it replies
unfoldable pub framed_on : (Station → Framed) → (b words past old : List ℕ) → Shown
framed_on f b words past old = cond (is_state b) (framed_shown b old (f (station_in b))) (shown damaged b words past old)

-- `floats` and `ints` are the lengths of the scratches
unfoldable pub frame_shown : (w h : ℕ) → (b words past : List ℕ) → (floats ints : ℕ) → (curve : List Float) → (old : List ℕ) → Shown
frame_shown w h b words past floats ints curve old =
    cond (is_state b) (framed_shown b old (frame_reply w h (station_in b) words past floats ints curve)) (shown damaged b words past old)

-- the scratch words that a frame may change: k, or none where it is refused
abbrev pub freed : (number k : ℕ) → ℕ
freed number k = cond (eqb number 0) k 0

-- what a frame of a source promises, which may use so many words of each scratch: the number, the state, the framebuffer, the history, what it reports, and
-- the scratch words that stay
pub record Leaves (asked : Shown) (floats_free ints_free : ℕ) (floats : List Float) (ints : List ℕ) (number : ℕ) (b' words' past' : List ℕ)
    (floats' : List Float) (ints' reports' : List ℕ) : Type 0 where
  pub replies : shown number b' words' past' reports' ≡ asked
  pub floats_stay : drop (freed number floats_free) floats' ≡ drop (freed number floats_free) floats
  pub ints_stay : drop (freed number ints_free) ints' ≡ drop (freed number ints_free) ints

-- what a frame promises: the number, the state, the framebuffer, the history, what it reports, and the scratch words that stay
pub record Frames (w h : ℕ) (b words past : List ℕ) (floats : List Float) (ints : List ℕ) (curve : List Float) (reports : List ℕ) (number : ℕ)
    (b' words' past' : List ℕ) (floats' : List Float) (ints' reports' : List ℕ) : Type 0 where
  pub replies : shown number b' words' past' reports' ≡ frame_shown w h b words past (length floats) (length ints) curve reports
  pub floats_stay : drop (freed number (float_room w h)) floats' ≡ drop (freed number (float_room w h)) floats
  pub ints_stay : drop (freed number (h * w)) ints' ≡ drop (freed number (h * w)) ints
