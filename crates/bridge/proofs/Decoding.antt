-- Bytes read as a state: the card's part of them, and the three ways that the reading ends. Assumes nothing.
use Prim.Native.Nat.{ℕ, ◌+◌, ◌-◌, ◌<◌, min}
use native.Mathlib.Omega.{arith}
use native.Mathlib.Decide.{dec_lt}
use mathlib.Core.Path.{◌≡◌, refl, ap, ap₂, sym, ◌∙◌}
use mathlib.Core.Bool.{Bool, true, false, ◌&&◌}
use mathlib.Core.List.{List}
use lib.ListN.{length, get_or, take, drop, length-drop}
use lib.Seq.{take_all}
use Rattle.std.specs.Prelude.{Result, Ok, Err}
use Rattle.num.specs.declared.refusal.Refusal.{Refusal}
use Rattle.num.specs.declared.refusal.Refusal.TheVariants as R
use Rattle.cards.specs.Answers.{ok, Reply}
use Rattle.chain.specs.Calls.{pend}
use Rattle.cards.specs.Card.{accepted, opened, open_of}
use Rattle.cards.specs.declared.station.Pending.{Pending}
use Rattle.cards.specs.declared.station.Record.{Record}
use Rattle.cards.specs.declared.station.Station.{Station}
use Rattle.bridge.specs.State.{card_in, hold_on, pending_in, station_in, encoded, same_bytes, is_state, decoded}

-- a length past the end takes no more than there is
pub card_part : (b : List ℕ) (e : ℕ) → length b ≡ 134 → e ≡ 1 + min (get_or b 0 0) 133 → take (e - 1) (drop 1 b) ≡ card_in b
card_part b e long end = go (dec_lt (get_or b 0 0) 133)
  where
    size : length (drop 1 b) ≡ 133
    size = length-drop 1 b ∙ omega (arith, long)

    go : Dec (get_or b 0 0 < 133) → take (e - 1) (drop 1 b) ≡ card_in b
    go (yes h) = let k : e - 1 ≡ get_or b 0 0 = omega arith in ap (λ (j : ℕ). take j (drop 1 b)) k
    go (no h) = take_all (e - 1) (drop 1 b) (omega (arith, size)) ∙ sym (take_all (get_or b 0 0) (drop 1 b) (omega (arith, size)))

-- the card is refused
pub no_card : (b card : List ℕ) (r : Result Station Refusal) (k : Refusal) → card ≡ card_in b → opened r ≡ open_of card → r ≡ Err k → Err R.BadStation ≡ decoded b
unfolding decoded is_state
no_card b card r k part opens e = rw (sym (ap (λ (p : Reply). ok p.answer) (ap opened (sym e) ∙ opens ∙ ap open_of part))) refl

-- it is accepted
module _
    (b card : List ℕ) (r : Result Station Refusal) (o : Station) (records : List Record) (pending : Pending) (part : card ≡ card_in b) (opens : opened r ≡ open_of card)
    (accepts : r ≡ Ok o) (holds : records ≡ (hold_on b o).records) (asks : pending ≡ pending_in b)
  where
    abbrev s : Station
    s = record { records = records; n = o.n; pending = pending }

    opened-is : accepted o ≡ open_of (card_in b)
    opened-is = ap opened (sym accepts) ∙ opens ∙ ap open_of part

    station-is : s ≡ station_in b
    station-is =
        ap₂ (λ (rs : List Record) (q : Pending). record { records = rs; n = o.n; pending = q }) holds asks
        ∙ ap (λ (p : Reply). pend (pending_in b) (hold_on b p.station)) opened-is

    test-is : (t : Bool) → same_bytes (encoded s) b ≡ t → is_state b ≡ t
    unfolding is_state
    test-is t f =
        ap (λ (p : Reply). ok p.answer && same_bytes (encoded (station_in b)) b) (sym opened-is) ∙ ap (λ (q : Station). same_bytes (encoded q) b) (sym station-is) ∙ f

    -- the bytes are others than those of its station
    pub other-bytes : same_bytes (encoded s) b ≡ false → Err R.BadStation ≡ decoded b
    unfolding decoded
    other-bytes f = rw (test-is false f) refl

    -- they are a state
    pub same_bytes_lem : same_bytes (encoded s) b ≡ true → Ok s ≡ decoded b
    unfolding decoded
    same_bytes_lem f = rw (test-is true f) (ap Ok station-is)
