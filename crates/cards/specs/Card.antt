-- The card: version, number of passes, records, padding. Opening it gives the station, or a refusal by its number, and the
-- place where reading stops. Assumes nothing.
use Rattle.std.specs.Prelude.{ℕ, zero, suc, ◌+◌, ◌-◌, ◌*◌, ◌/◌, Bool, false, not, ◌&&◌, List, [], ◌∷◌, ◌++◌, length, replicate, ltb, eqb, Result, Ok, Err}
use Rattle.num.specs.Refusals.{number_of}
use Rattle.num.specs.declared.refusal.Refusal.{Refusal}
use Rattle.cards.specs.Answers.{refusal, acceptance, Reply, reply}
use Rattle.cards.specs.Step.{Step, took, refused, Reader, ◌>>=◌, ◌>>◌, ret, here, refuse_if}
use Rattle.cards.specs.Bits.{value_at, field_at}
use Rattle.num.specs.Const.{c0_0}
use Rattle.cards.specs.Records.{kinds, carded, record_at}
use Rattle.cards.specs.declared.station.Pass.TheVariants.{Scanlines}
use Rattle.cards.specs.declared.station.Pending.TheVariants.{Nothing}
use Rattle.cards.specs.declared.station.Record.{Record}
use Rattle.cards.specs.declared.station.Station.{Station}

-- what stands in a place past n
abbrev pub unused : Record
unused = carded false (Scanlines c0_0)

abbrev pub station_of : List Record → Station
station_of rs = record { records = rs ++ replicate (12 - length rs) unused; n = length rs; pending = Nothing }

-- n records after those that are done, each of a kind that may come once more
unfoldable pub records_at : ℕ → List Record → Reader (List Record)
records_at zero done = ret done
records_at (suc n) done = do
  r ← record_at (kinds done)
  records_at n (done ++ r ∷ [])

-- zero bits to the byte's end, and no byte after it
unfoldable pub ends_at : List ℕ → ℕ → Bool
ends_at card at = eqb (length card) ((at + 7) / 8) && eqb (value_at card at ((at + 7) / 8 * 8 - at)) 0

unfoldable pub end_at : Reader (Unit {0})
end_at card at = refuse_if 7 at (not (ends_at card at)) card at

-- the version, then the number of passes
unfoldable pub header_at : Reader ℕ
header_at = do
  p ← here
  version ← field_at 4
  refuse_if 2 p (not (eqb version 1))
  q ← here
  n ← field_at 4
  refuse_if 3 q (ltb 12 n)
  ret n

unfoldable pub station_at : Reader Station
station_at = do
  n ← header_at
  records ← records_at n []
  end_at
  ret (station_of records)

-- a card that is accepted, with its station
abbrev pub accepted : Station → Reply
accepted s = reply (acceptance []) s

-- a refused one leaves an empty station
abbrev pub opened_of : Step Station → Reply
opened_of (took s next) = accepted s
opened_of (refused k) = reply (refusal k.number) (station_of [])

unfoldable pub open_of : List ℕ → Reply
open_of card = opened_of (station_at card 0)

abbrev pub place_of : Step Station → ℕ
place_of (took s next) = next
place_of (refused k) = k.at

-- the bit place where reading stops: the first bit of the field that is refused; for 7, and for a card that is accepted, the bit after the last field
unfoldable pub stopped_of : List ℕ → ℕ
stopped_of card = place_of (station_at card 0)

-- what the code answers: a refused card leaves no station, for which the empty one stands
abbrev pub opened : Result Station Refusal → Reply
opened (Ok s) = accepted s
opened (Err k) = reply (refusal (number_of k)) (station_of [])
