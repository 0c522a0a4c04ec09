-- The longest card is 83 bytes: persistence stands three times at most and any other kind once, so a chain's records take at most what the ten kinds take
-- together, 655 bits. Assumes nothing.
use Prim.Native.Nat.{◌+◌, ◌/◌, ◌≤◌}
use native.Mathlib.Omega.{arith}
use mathlib.Core.List.{List, [], ◌++◌}
use lib.ListN.{length, take, length-append}
use lib.Dec.{T}
use Rattle.cards.specs.Normal.{normal_chain}
use Rattle.cards.specs.Claims.{Longest}
use Rattle.cards.specs.Written.{bits, record_bits, records_bits, chain_bits, chain_card, card_of}
use Rattle.cards.specs.declared.station.Record.{Record}
use Rattle.cards.specs.Laws.Kinds.{kinds, together, as_often}
use Rattle.cards.proofs.Packed.{length-bits, length-pack}
use Rattle.cards.proofs.Records.{width, record_long}
use Rattle.num.specs.Laws.Bools.{is_true}
use Rattle.cards.proofs.Writing.{good_parts}

records_long : (rs : List Record) → T (normal_chain [] rs) → length (records_bits rs) ≤ together width kinds []
unfolding records_bits
records_long rs h =
    as_often width (λ rs. length (records_bits rs)) (omega arith)
    (λ r rs q. omega (arith, length-append (record_bits r) (records_bits rs), record_long r)) rs [] (is_true (normal_chain [] rs) h)

-- no chain's card is longer than 83 bytes
pub longest : (rs : List Record) → T (normal_chain [] rs) → length (chain_card rs) ≤ 83
unfolding chain_card chain_bits
longest rs h =
    omega (
      arith,
      length-pack ((length (chain_bits rs) + 7) / 8) (chain_bits rs),
      length-append (bits 4 1) (bits 4 (length rs) ++ records_bits rs),
      length-append (bits 4 (length rs)) (records_bits rs),
      length-bits 4 1,
      length-bits 4 (length rs),
      records_long rs h,
    )

pub station-short : Longest
unfolding card_of
station-short s e = longest (take s.n s.records) (good_parts s e).1
