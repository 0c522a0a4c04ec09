-- What the inner functions of the calls rely on: what is lent to a pass, and where a record stands. Assumes nothing.
use Rattle.std.specs.Prelude.{ℕ, ◌*◌, ◌≤◌, ◌<◌, ◌≡◌, true, List, length, get_or, set, Float}
use Rattle.num.specs.Held.{area}
use Rattle.num.specs.declared.size.Size.{Size}
use Rattle.passes.specs.Rows.{Frame}
use Rattle.chain.specs.Calls.{float_room}
use Rattle.chain.specs.Chain.{depth_of, depth, reads}
use Rattle.cards.specs.Normal.{normal_pass}
use Rattle.cards.specs.Passes.{kind_of}
use Rattle.cards.specs.declared.station.Pass.{Pass}
use Rattle.cards.specs.declared.station.Record.{Record}
use Rattle.cards.specs.declared.station.Station.{Station}

-- a frame of that size, and scratch for it: one u32 word for each of its words
pub record Lent (size : Size) (frame : List ℕ) (floats : List Float) (ints : List ℕ) : Type 0 where
  pub shape : Frame size.width size.height frame
  pub some-wide : 0 < size.width
  pub some_high : 0 < size.height
  pub floats_room : length floats ≡ float_room size.width size.height
  pub ints_room : length ints ≡ area size

-- a normalised pass, and words enough for it: `room` of the history, `lent` of the curve
pub record Ready (size : Size) (pass : Pass) (room lent : ℕ) : Type 0 where
  pub normal : normal_pass pass ≡ true
  pub past_room : depth_of pass * area size ≤ room
  pub curve_room : reads pass ≡ true → 256 ≤ lent

-- the records of a chain: the history has room for all their places, each is normalised, and the curve is long enough where one reads it
pub record Readies (size : Size) (rs : List Record) (room lent : ℕ) : Type 0 where
  pub few : length rs ≤ 12
  pub past_room : depth rs * area size ≤ room
  pub normal : (i : ℕ) (d : Record) → i < length rs → normal_pass (get_or rs i d).pass ≡ true
  pub curve_room : (i : ℕ) (d : Record) → i < length rs → reads (get_or rs i d).pass ≡ true → 256 ≤ lent

-- the first record of that kind among the first n stands at i
pub record First (kind n : ℕ) (rs : List Record) (i : ℕ) : Type 0 where
  pub within : i < n
  pub there : (d : Record) → kind_of (get_or rs i d).pass ≡ kind
  pub earlier : (j : ℕ) (d : Record) → j < i → kind_of (get_or rs j d).pass ≡ kind → ⊥

-- the first record of that kind in the station's chain stands at i
pub record Found (kind : ℕ) (s : Station) (i : ℕ) : Type 0 where
  pub first : First kind s.n s.records i
  pub few : s.n ≤ 12
  pub room : s.n ≤ length s.records
  pub inside : i < 12

-- the station with that record in that place
abbrev pub put_at : ℕ → Record → Station → Station
put_at i r s = record { records = set s.records i r; n = s.n; pending = s.pending }
