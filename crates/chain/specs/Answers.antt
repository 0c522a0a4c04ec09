-- What the calls answer, in the words of document 01: for each case of an answer its number and values; `reported` is cards'. Assumes nothing.
use Rattle.std.specs.Prelude.{ℕ, ◌*◌, ◌≡◌, Bool, cond, List, [], ◌∷◌, length, drop, Float, Result, Ok, Err}
use Rattle.num.specs.declared.refusal.Refusal.{Refusal}
use Rattle.passes.specs.declared.blur.Counts.{Counts}
use Rattle.cards.specs.Answers.{Report, Reply, reply, reported_by, reported}
use Rattle.chain.specs.Calls.{float_room, Framed, framed, frame_reply}
use Rattle.cards.specs.declared.station.Station.{Station}

-- of a frame: acceptance reports how many channels were clipped, and how many samples were taken
abbrev pub reported_frame : Result Counts Refusal → Report
reported_frame = reported_by (λ c. c.clipped ∷ c.samples ∷ [])

-- of a preset step, which reports the new preset, and of a question that is answered by a number
abbrev pub reported_number : Result ℕ Refusal → Report
reported_number = reported_by (λ n. n ∷ [])

-- of a question that is answered by yes, 1, or no, 0
abbrev pub reported_switch : Result Bool Refusal → Report
reported_switch = reported_by (λ b. cond b 1 0 ∷ [])

-- of a call, with the station that it leaves
abbrev pub called : Result (Unit {0}) Refusal → Station → Reply
called r s = reply (reported r) s

-- of a call that is lent the history alone, with what it leaves there
abbrev pub called_with : Result (Unit {0}) Refusal → Station → (past : List ℕ) → Framed
called_with r s past = framed (reported r) s [] past

abbrev pub cycled : Result ℕ Refusal → Station → Reply
cycled r s = reply (reported_number r) s

-- the scratch words that a frame may change: k, or none where it is refused
abbrev pub free : Result Counts Refusal → ℕ → ℕ
free (Ok c) k = k
free (Err e) k = 0

-- What a frame call promises. It gets a station, a framebuffer, a history, two scratches and a curve, and answers `r`; what it leaves has a prime. The
-- curve is only read.
pub record Applies (w h : ℕ) (s : Station) (words past : List ℕ) (floats : List Float) (ints : List ℕ) (curve : List Float)
    (r : Result Counts Refusal) (s' : Station) (words' past' : List ℕ) (floats' : List Float) (ints' : List ℕ) : Type 0 where
  -- the answer, the station, and every word of the framebuffer and of the history
  pub replies : framed (reported_frame r) s' words' past' ≡ frame_reply w h s words past (length floats) (length ints) curve
  -- the f32 words past those that it asks for stay, and all of them where the frame is refused
  pub floats_stay : drop (free r (float_room w h)) floats' ≡ drop (free r (float_room w h)) floats
  -- the u32 words past count stay, and all of them where the frame is refused
  pub ints_stay : drop (free r (h * w)) ints' ≡ drop (free r (h * w)) ints
