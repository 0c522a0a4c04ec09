-- A file that holds one frame as binary PPM, under a station: what becomes of the file, the station, and all that is lent. Assumes nothing.
use Rattle.std.specs.Prelude.{ℕ, ◌*◌, ◌≡◌, Bool, cond, ◌||◌, List, ◌++◌, Float, length, get_or, take, drop, eqb}
use Rattle.num.specs.Refusals.{unless}
use Rattle.raster.specs.Pixels.{unpacked, packed_bytes}
use Rattle.raster.specs.Ppm.{header_cut, pixels_cut, left_over, unread, Parsed, parse_of}
use Rattle.cards.specs.Answers.{Report, refusal, acceptance}
use Rattle.chain.specs.Calls.{Framed, float_room, stops, frame_reply}
use Rattle.cards.specs.declared.station.Station.{Station}
use Rattle.frames.specs.Outcome.{Outcome, Shown, NoFrame, Refused, Answer, outcome as told}

-- what a frame's answer is, in the code's words: acceptance reports two numbers, how many channels were clipped and how many samples were taken
abbrev pub outcome_of : Report → Outcome
outcome_of (refusal k) = Refused k
outcome_of (acceptance ns) = Shown (get_or ns 0 0) (get_or ns 1 0)

-- the number of a refusal, 0 for none
abbrev pub number_of : Parsed → ℕ
number_of (Parsed.Frame w h start) = 0
number_of (Parsed.Refused k) = k

-- why a file is no frame, 0 for none: k is told of its first bytes, and `more` says whether there are others. Where there are, bytes that end inside the
-- header or the pixels are not all that the file has.
abbrev pub fault_of : Bool → ℕ → ℕ
fault_of more k = cond more (cond (eqb k 0) left_over (cond (eqb k header_cut || eqb k pixels_cut) unread k)) k

-- what becomes of a file, of the station, of framebuffer and history, and how many f32 and u32 words of scratch may have changed
pub record Result : Type 0 where
  pub outcome : Outcome
  pub station : Station
  pub file : List ℕ
  pub words : List ℕ
  pub past : List ℕ
  pub free_floats : ℕ
  pub free_ints : ℕ

-- nothing is changed
abbrev pub result : Outcome → Station → (file words past : List ℕ) → Result
result o s file words past = record { outcome = o; station = s; file = file; words = words; past = past; free_floats = 0; free_ints = 0 }

-- an accepted frame, whose words are all that is lent of the framebuffer; of the file all that is lent is its pixels
abbrev pub shown : (w h : ℕ) → Framed → Result
shown w h r = record {
  outcome = outcome_of r.answer;
  station = r.station;
  file = packed_bytes r.words;
  words = r.words;
  past = r.past;
  free_floats = float_room w h;
  free_ints = h * w;
}

-- its pixels stand in the file from `start` on; the framebuffer's words past the frame's stay
abbrev pub among : (start count : ℕ) → (file words : List ℕ) → Result → Result
among start count file words x = record {
  outcome = x.outcome;
  station = x.station;
  file = take start file ++ x.file;
  words = x.words ++ drop count words;
  past = x.past;
  free_floats = x.free_floats;
  free_ints = x.free_ints;
}

-- `floats` and `ints` are the lengths of the scratches
module _ (w h : ℕ) (s : Station) where
  -- a frame that the station refuses leaves all that is lent; `taken` is what else becomes of it
  abbrev pub asked : (file words past : List ℕ) → (floats ints : ℕ) → List Float → Result → Result
  asked file words past floats ints curve taken =
      unless (stops s w h (h * w) (length past) floats ints curve) (λ k. result (Refused k) s file words past) taken

  abbrev pub replied : (pixels past : List ℕ) → (floats ints : ℕ) → List Float → Framed
  replied pixels past floats ints curve = frame_reply w h s (unpacked (h * w) pixels) past floats ints curve

  abbrev pub shows_of : (pixels words past : List ℕ) → (floats ints : ℕ) → List Float → Result
  shows_of pixels words past floats ints curve = asked pixels words past floats ints curve (shown w h (replied pixels past floats ints curve))

abbrev pub by_parsed : Parsed → Station → (file words past : List ℕ) → (floats ints : ℕ) → List Float → Result
by_parsed (Parsed.Refused k) s file words past floats ints curve = result (NoFrame k) s file words past
by_parsed (Parsed.Frame w h start) s file words past floats ints curve =
    asked w h s file words past floats ints curve
    (among start (h * w) file words (shown w h (replied w h s (drop start file) past floats ints curve)))

-- a frame may have as many pixels as the framebuffer has words
unfoldable pub filtered_of : Station → (file words past : List ℕ) → (floats ints : ℕ) → List Float → Result
filtered_of s file words past floats ints curve = by_parsed (parse_of (length words) file) s file words past floats ints curve

-- ## What the functions promise

-- the scratch words that stay are those past the free ones
pub record Filters (x : Result) (r : Answer) (s' : Station) (file' words' past' : List ℕ) (floats floats' : List Float) (ints ints' : List ℕ) : Type 0 where
  pub outcome : told r ≡ x.outcome
  pub station : s' ≡ x.station
  pub file : file' ≡ x.file
  pub words : words' ≡ x.words
  pub past : past' ≡ x.past
  pub floats_stay : drop x.free_floats floats' ≡ drop x.free_floats floats
  pub ints_stay : drop x.free_ints ints' ≡ drop x.free_ints ints

-- a frame whose words, and the bytes of whose pixels, are all that is lent
pub record Room (count : ℕ) (words pixels : List ℕ) : Type 0 where
  pub words_room : length words ≡ count
  pub pixels_room : length pixels ≡ 3 * count
