-- What an event of program `station` does and prints. The framebuffer has 1,024 words, of which a frame is lent just its own. Assumes nothing.
use Rattle.std.specs.Prelude.{ℕ, ◌*◌, Bool, true, false, cond, List, [], ◌++◌, eqb, length, drop}
use Rattle.num.specs.Refusals.{unless}
use Rattle.cards.specs.Answers.{Report, refusal, acceptance, Reply}
use Rattle.chain.specs.Calls.{Framed, float_room, stops, reset_reply, switch_reply, step_reply, frame_reply}
use Rattle.cards.specs.declared.station.Station.{Station}
use Rattle.raster.specs.Pixels.{unpacked}
use Rattle.events.specs.Events.{letter_in, width_in, height_in, count_in, kind_in, position_in, event_fault}
use Rattle.events.specs.Text.{F, L, R, S, E, number_of, numbers_of, pixels_of, line}

-- ## Lines

abbrev pub refusal_line : ℕ → List ℕ
refusal_line k = line E (number_of k)

-- of a reset, a switch and a step: the letter, then what the call reports
abbrev pub spoken : ℕ → Report → List ℕ
spoken letter (refusal k) = refusal_line k
spoken letter (acceptance ns) = line letter (numbers_of ns)

-- of a frame: the letter, then each pixel of its picture
abbrev pub pictured : Report → List ℕ → List ℕ
pictured (refusal k) words = refusal_line k
pictured (acceptance ns) words = line F (pixels_of words)

-- ## The card: an accepted one prints nothing

abbrev pub open_text : Report → List ℕ
open_text (refusal k) = refusal_line k
open_text (acceptance ns) = []

-- ## Events

-- the station after an event, the words of the framebuffer and of the history, what is printed, whether the next event is read, and how
-- many f32 and u32 words of scratch may have changed
pub record Outcome : Type 0 where
  pub station : Station
  pub words : List ℕ
  pub past : List ℕ
  pub text : List ℕ
  pub more : Bool
  pub free_floats : ℕ
  pub free_ints : ℕ

-- of all but an accepted frame: no scratch is changed
abbrev pub outcome : Station → (words past text : List ℕ) → Bool → Outcome
outcome s words past text more = record { station = s; words = words; past = past; text = text; more = more; free_floats = 0; free_ints = 0 }

abbrev pub answered : ℕ → Reply → (words past : List ℕ) → Outcome
answered letter r words past = outcome r.station words past (spoken letter r.answer) true

-- an accepted frame, whose words are all that is lent of the framebuffer
abbrev pub shown : (w h : ℕ) → Framed → Outcome
shown w h r = record {
  station = r.station;
  words = r.words;
  past = r.past;
  text = pictured r.answer r.words;
  more = true;
  free_floats = float_room w h;
  free_ints = h * w;
}

-- 6,144 f32 words and 1,024 u32 words are lent to each frame, the whole history, and an empty curve
abbrev pub frame_replied : (w h : ℕ) → Station → (pixels past : List ℕ) → Framed
frame_replied w h s pixels past = frame_reply w h s (unpacked (h * w) pixels) past 6144 1024 []

-- a frame that the station refuses leaves all that is lent; `taken` is what else becomes of it
abbrev pub asked : (w h : ℕ) → Station → (words past : List ℕ) → Outcome → Outcome
asked w h s words past taken =
    unless (stops s w h (h * w) (length past) 6144 1024 []) (λ k. outcome s words past (refusal_line k) true) taken

abbrev pub show_played : (w h : ℕ) → Station → (pixels words past : List ℕ) → Outcome
show_played w h s pixels words past = asked w h s words past (shown w h (frame_replied w h s pixels past))

-- the other words of the framebuffer stay
abbrev pub among : ℕ → List ℕ → Outcome → Outcome
among count words o = record {
  station = o.station;
  words = o.words ++ drop count words;
  past = o.past;
  text = o.text;
  more = o.more;
  free_floats = o.free_floats;
  free_ints = o.free_ints;
}

abbrev pub frame_played : List ℕ → Station → (words past : List ℕ) → Outcome
frame_played bytes s words past =
    asked (width_in bytes) (height_in bytes) s words past
    (among (count_in bytes) words (shown (width_in bytes) (height_in bytes) (frame_replied (width_in bytes) (height_in bytes) s (drop 3 bytes) past)))

-- an event without fault, by its letter
unfoldable pub called : List ℕ → Station → (words past : List ℕ) → Outcome
called bytes s words past =
    cond (eqb (letter_in bytes) F) (frame_played bytes s words past)
    (cond (eqb (letter_in bytes) R) (answered R (reset_reply s) words past)
    (cond (eqb (letter_in bytes) S) (answered S (switch_reply (kind_in bytes) (eqb (position_in bytes) 1) s) words past)
    (answered L (step_reply s) words past)))

-- fault k ends the reading
abbrev pub ending : Station → (words past : List ℕ) → ℕ → Outcome
ending s words past k = outcome s words past (refusal_line k) false

-- the bytes are all that the input had of the event: none where it has ended
unfoldable pub played_of : List ℕ → Station → (words past : List ℕ) → Outcome
played_of bytes s words past =
    cond (eqb (length bytes) 0) (outcome s words past [] false)
    (unless (event_fault bytes) (ending s words past) (called bytes s words past))
