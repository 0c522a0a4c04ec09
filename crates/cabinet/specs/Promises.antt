-- What the cabinet's frame promises: as a station's frame does, of the enlarged words. Assumes nothing.
use Rattle.std.specs.Prelude.{ℕ, ◌*◌, ◌<◌, ◌≤◌, ◌≡◌, List, Float, length, drop, Result}
use Rattle.cards.specs.declared.station.Station.{Station}
use Rattle.chain.specs.Answers.{reported_frame, free}
use Rattle.chain.specs.Calls.{float_room, framed}
use Rattle.num.specs.declared.refusal.Refusal.{Refusal}
use Rattle.passes.specs.declared.blur.Counts.{Counts}
use Rattle.cabinet.specs.Cabinet.{cabinet_reply}

pub record Shows (w h : ℕ) (picture colours : List ℕ) (s : Station) (words past : List ℕ) (floats : List Float) (ints : List ℕ) (curve : List Float)
    (r : Result Counts Refusal) (s' : Station) (words' past' : List ℕ) (floats' : List Float) (ints' : List ℕ) : Type 0 where
  -- the answer, the station, and every word of the framebuffer and of the history
  pub replies : framed (reported_frame r) s' words' past' ≡ cabinet_reply w h picture colours s words past (length floats) (length ints) curve
  -- the scratch words past those that a frame of the enlarged size asks for stay, and all of them where it is refused
  pub floats_stay : drop (free r (float_room (3 * w) (3 * h))) floats' ≡ drop (free r (float_room (3 * w) (3 * h))) floats
  pub ints_stay : drop (free r (3 * h * (3 * w))) ints' ≡ drop (free r (3 * h * (3 * w))) ints

-- what enlarging asks for: a good source, and a frame of the enlarged size
pub record Sourced (w h : ℕ) (picture colours out : List ℕ) : Type 0 where
  pub some : 0 < w
  pub wide : w ≤ 341
  pub high : h ≤ 341
  pub numbers : h * w ≤ length picture
  pub shades : 64 ≤ length colours
  pub room : length out ≡ 3 * h * (3 * w)
