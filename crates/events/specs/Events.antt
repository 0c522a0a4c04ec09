-- The input of program `station`: a length byte and the card, then events. Assumes nothing.
use Rattle.std.specs.Prelude.{ℕ, ◌+◌, ◌-◌, ◌*◌, ◌≤◌, Bool, ◌||◌, cond, List, [], eqb, ltb, length, take, drop}
use Rattle.raster.specs.Pixels.{byte_at}
use Rattle.events.specs.Text.{F, L, R, S}

-- ## The card

-- how many bytes the length byte and the card take, as far as these bytes tell
unfoldable pub head_wanted : List ℕ → ℕ
head_wanted bytes = cond (eqb (length bytes) 0) 1 (1 + byte_at bytes 0)

-- the card; none where the input ends before its length byte or inside the card, since a card of no byte is torn too
unfoldable pub card_in : List ℕ → List ℕ
card_in bytes = cond (ltb (length bytes) (head_wanted bytes)) [] (take (head_wanted bytes - 1) (drop 1 bytes))

-- ## An event: its letter, then what the letter asks

abbrev pub letter_in : List ℕ → ℕ
letter_in bytes = byte_at bytes 0

-- F: width, height, three bytes a pixel
abbrev pub width_in : List ℕ → ℕ
width_in bytes = byte_at bytes 1

abbrev pub height_in : List ℕ → ℕ
height_in bytes = byte_at bytes 2

abbrev pub count_in : List ℕ → ℕ
count_in bytes = height_in bytes * width_in bytes

-- the program takes sides of 1 to 32
unfoldable pub outside : ℕ → Bool
outside side = eqb side 0 || ltb 32 side

abbrev pub bad_size : List ℕ → Bool
bad_size bytes = outside (width_in bytes) || outside (height_in bytes)

-- S: kind, position
abbrev pub kind_in : List ℕ → ℕ
kind_in bytes = byte_at bytes 1

abbrev pub position_in : List ℕ → ℕ
position_in bytes = byte_at bytes 2

-- how many bytes the event takes that begins with these, as far as they tell. Of a frame with a bad size no pixel is read.
unfoldable pub frame_wanted : List ℕ → ℕ
frame_wanted bytes = cond (ltb (length bytes) 3) 3 (cond (bad_size bytes) 3 (3 + 3 * count_in bytes))

unfoldable pub event_wanted : List ℕ → ℕ
event_wanted bytes =
    cond (eqb (length bytes) 0) 1
    (cond (eqb (letter_in bytes) F) (frame_wanted bytes)
    (cond (eqb (letter_in bytes) S) 3 1))

-- why the reading ends at an event, of which the input had these bytes: 8 for a bad size, 1 for all else, 0 for none
unfoldable pub frame_fault : List ℕ → ℕ
frame_fault bytes =
    cond (ltb (length bytes) 3) 1
    (cond (bad_size bytes) 8
    (cond (ltb (length bytes) (3 + 3 * count_in bytes)) 1 0))

unfoldable pub switch_fault : List ℕ → ℕ
switch_fault bytes = cond (ltb (length bytes) 3) 1 (cond (ltb 1 (position_in bytes)) 1 0)

unfoldable pub event_fault : List ℕ → ℕ
event_fault bytes =
    cond (eqb (letter_in bytes) F) (frame_fault bytes)
    (cond (eqb (letter_in bytes) S) (switch_fault bytes)
    (cond (eqb (letter_in bytes) R || eqb (letter_in bytes) L) 0 1))

-- a frame without fault: its bytes are there, and it is small
pub record Whole (bytes : List ℕ) : Type 0 where
  pub long : 3 + 3 * count_in bytes ≤ length bytes
  pub small : count_in bytes ≤ 1024
