-- What the functions promise: the station, the printed line at the start of `out`, and whether to go on. Assumes nothing.
use Rattle.std.specs.Prelude.{ℕ, ◌*◌, ◌≤◌, ◌≡◌, Bool, true, List, [], Float, length, drop, Result, Ok, Err, IfErr}
use Rattle.std.specs.Result.{is_ok}
use Rattle.cards.specs.Answers.{ok, Reply}
use Rattle.cards.specs.Card.{station_of}
use Rattle.cards.specs.declared.station.Station.{Station}
use Rattle.events.specs.Buffers.{Printed}
use Rattle.events.specs.Play.{Outcome, open_text}
use Rattle.events.specs.declared.play.NotOpened.{NotOpened}
use Rattle.events.specs.declared.play.Played.{Played}

pub record Says (text : List ℕ) (more : Bool) (r : Played) (out out' : List ℕ) : Type 0 where
  pub goes_on : r.more ≡ more
  pub prints : Printed text r.length out out'

-- a line of n bytes, after which the next event is read
abbrev pub went_on : ℕ → Played
went_on n = record { length = n; more = true }

-- of opening: the station, where the card is refused too, and the length of the line, of which an accepted card has none
abbrev pub station_from : Result Station NotOpened → Station
station_from (Ok s) = s
station_from (Err k) = k.station

abbrev pub length_from : Result Station NotOpened → ℕ
length_from (Ok s) = 0
length_from (Err k) = k.length

-- opening a card: what the definition replies, with the empty station where the card is refused, and its line
pub record Begins (o : Reply) (r : Result Station NotOpened) (out out' : List ℕ) : Type 0 where
  pub station : station_from r ≡ o.station
  pub empty : IfErr r (λ k. o.station ≡ station_of [])
  pub goes_on : is_ok r ≡ ok o.answer
  pub prints : Printed (open_text o.answer) (length_from r) out out'

-- what is lent to a frame of count words, and for its line
pub record Room (count : ℕ) (words pixels : List ℕ) (floats : List Float) (ints out : List ℕ) : Type 0 where
  pub small : count ≤ 1024
  pub words_room : length words ≡ count
  pub pixels_room : 3 * count ≤ length pixels
  pub floats_room : length floats ≡ 6144
  pub ints_room : length ints ≡ 1024
  pub out_room : length out ≡ 7170

-- what the program lends
pub record Lent (words : List ℕ) (floats : List Float) (ints out : List ℕ) : Type 0 where
  pub words_room : length words ≡ 1024
  pub floats_room : length floats ≡ 6144
  pub ints_room : length ints ≡ 1024
  pub out_room : length out ≡ 7170

-- the station, the framebuffer and the history too, and the scratch words that stay: past the free ones
pub record Gives (o : Outcome) (r : Played) (s' : Station) (words' past' : List ℕ) (floats floats' : List Float) (ints ints' out out' : List ℕ) : Type 0 where
  pub station : s' ≡ o.station
  pub words : words' ≡ o.words
  pub past : past' ≡ o.past
  pub floats_stay : drop o.free_floats floats' ≡ drop o.free_floats floats
  pub ints_stay : drop o.free_ints ints' ≡ drop o.free_ints ints
  pub says : Says o.text o.more r out out'
