-- The cases of the card: those that document 01 marks (●), and one for each refusal. Each list pairs what a definition gives with what it should give, and one
-- proof by computation holds the whole list. Assumes nothing.
use Rattle.std.specs.Prelude.{ℕ, ◌*◌, ◌/◌, ◌%◌, ◌^◌, true, List, [], ◌∷◌, refl}
use Rattle.std.specs.Float.Ieee.{of_bits, to_bits, lt, eq, neg}
use Rattle.num.specs.Cases.{Hold}
use Rattle.num.specs.Const.{c0_0}
use Rattle.num.specs.Steps.{clamp_of, plus_zero_of, limit_of}
use Rattle.cards.specs.Answers.{refusal, Reply, reply}
use Rattle.cards.specs.Step.{refuse_if}
use Rattle.cards.specs.Bits.{value_at, field_at}
use Rattle.cards.specs.Settings.{finite_at, limited_at, within_at, raised_at, count_at, preset_at}
use Rattle.cards.specs.Passes.{pass_at, bloom_at, auto_gradient_at, persistence_at, lut_at, curvature_at, color_correction_at, crt_at}
use Rattle.cards.specs.Passes.{vignette_at, scanlines_at}
use Rattle.cards.specs.Records.{carded, record_at}
use Rattle.cards.specs.Card.{station_of, header_at, records_at, ends_at, end_at, station_at, accepted, open_of, stopped_of}
use Rattle.cards.specs.Written.{bits, pass_bits, record_bits, records_bits, chain_bits, value_of, pack, chain_card, card_of}
use Rattle.cards.specs.declared.station.Pass.TheVariants.{Persistence, Curvature, Scanlines}

-- a card that is refused by that number
abbrev refused_by : ℕ → Reply
refused_by k = reply (refusal k) (station_of [])

-- a card of colour alone, on, with that bit pattern for gamma (from bit 109 on) and 0 for the other settings
abbrev of_gamma : ℕ → List ℕ
of_gamma g =
    0x11 ∷ 0x78 ∷ 0 ∷ 0 ∷ 0 ∷ 0 ∷ 0 ∷ 0 ∷ 0 ∷ 0 ∷ 0 ∷ 0 ∷ 0 ∷ g / 2 ^ 29 ∷ g / 2 ^ 21 % 256 ∷ g / 2 ^ 13 % 256 ∷ g / 2 ^ 5 % 256 ∷ g % 2 ^ 5 * 8 ∷ []

-- ● Card 10: the empty chain. Depth 8 taken (11 48 00 00 00 00 40), 9 refused with 6.
-- Then a torn card, a foreign one, an overfull one, an unknown pass, scanlines twice, a byte left over, a padding bit set.
-- Order: bloom, NTSC (15); gradient, LUT, gradient (5, though it is below the last too); a kind out of order whose on bit is torn off
-- (15); curvature and scanlines, with gaps before and between them (taken). Twelve passes are not too many, though
-- none follows (1); persistence three times, with depths of its own each (taken), and a fourth time (5); persistence, LUT, persistence (15). Gamma: one step
-- above 4, an infinity, a NaN (6).
abbrev pub opened : List (Reply × Reply)
opened =
    (open_of (0x10 ∷ []), accepted (station_of []))
    ∷ (open_of (0x11 ∷ 0x48 ∷ 0 ∷ 0 ∷ 0 ∷ 0 ∷ 0x40 ∷ []), accepted (station_of (carded true (Persistence c0_0 8) ∷ [])))
    ∷ (open_of (0x11 ∷ 0x48 ∷ 0 ∷ 0 ∷ 0 ∷ 0 ∷ 0x48 ∷ []), refused_by 6)
    ∷ (open_of [], refused_by 1)
    ∷ (open_of (0x20 ∷ []), refused_by 2)
    ∷ (open_of (0x1d ∷ []), refused_by 3)
    ∷ (open_of (0x11 ∷ 0xb0 ∷ []), refused_by 4)
    ∷ (open_of (0x12 ∷ 0xa8 ∷ 0 ∷ 0 ∷ 0 ∷ 5 ∷ 0 ∷ []), refused_by 5)
    ∷ (open_of (0x10 ∷ 0 ∷ []), refused_by 7)
    ∷ (open_of (0x11 ∷ 0xa8 ∷ 0 ∷ 0 ∷ 0 ∷ 1 ∷ []), refused_by 7)
    ∷ (open_of (0x12 ∷ 0x28 ∷ 0 ∷ 0 ∷ 0 ∷ 0 ∷ 0 ∷ 8 ∷ 0xc0 ∷ 0 ∷ 0 ∷ 0 ∷ 0 ∷ 0x40 ∷ []), refused_by 15)
    ∷ (open_of (0x13 ∷ 0x38 ∷ 0 ∷ 0 ∷ 0 ∷ 0 ∷ 0 ∷ 0 ∷ 0 ∷ 0 ∷ 0 ∷ 0 ∷ 0 ∷ 2 ∷ 0xc0 ∷ 0 ∷ 0 ∷ 0 ∷ 1 ∷ 0xc0 ∷ []), refused_by 5)
    ∷ (open_of (0x15 ∷ 0x68 ∷ 0 ∷ 0 ∷ 0 ∷ 4 ∷ 0x40 ∷ 0 ∷ 0 ∷ 0 ∷ 0x26 ∷ 0 ∷ 0 ∷ 0 ∷ 1 ∷ 0x50 ∷ 0 ∷ 0 ∷ 0 ∷ 1 ∷ []), refused_by 15)
    ∷ (
      open_of (0x12 ∷ 0x68 ∷ 0 ∷ 0 ∷ 0 ∷ 5 ∷ 0x40 ∷ 0 ∷ 0 ∷ 0 ∷ 0 ∷ []),
      accepted (station_of (carded true (Curvature c0_0) ∷ carded true (Scanlines c0_0) ∷ [])),
    )
    ∷ (open_of (0x1c ∷ []), refused_by 1)
    ∷ (
      open_of (0x13 ∷ 0x48 ∷ 0 ∷ 0 ∷ 0 ∷ 0 ∷ 0x0a ∷ 0x40 ∷ 0 ∷ 0 ∷ 0 ∷ 0 ∷ 0x92 ∷ 0 ∷ 0 ∷ 0 ∷ 0 ∷ 6 ∷ []),
      accepted (station_of (carded true (Persistence c0_0 1) ∷ carded true (Persistence c0_0 2) ∷ carded true (Persistence c0_0 3) ∷ [])),
    )
    ∷ (open_of (0x14 ∷ 0x48 ∷ 0 ∷ 0 ∷ 0 ∷ 0 ∷ 0x0a ∷ 0x40 ∷ 0 ∷ 0 ∷ 0 ∷ 0 ∷ 0x92 ∷ 0 ∷ 0 ∷ 0 ∷ 0 ∷ 6 ∷ 0x90 ∷ 0 ∷ 0 ∷ 0 ∷ 0 ∷ 0x40 ∷ []), refused_by 5)
    ∷ (open_of (0x13 ∷ 0x48 ∷ 0 ∷ 0 ∷ 0 ∷ 0 ∷ 0x0a ∷ 0xc0 ∷ 0 ∷ 0 ∷ 0 ∷ 2 ∷ 0x40 ∷ 0 ∷ 0 ∷ 0 ∷ 0 ∷ 0x80 ∷ []), refused_by 15)
    ∷ (open_of (of_gamma 0x4080_0001), refused_by 6)
    ∷ (open_of (of_gamma 0xff80_0000), refused_by 6)
    ∷ (open_of (of_gamma 0x7fc0_0000), refused_by 6)
    ∷ []

pub opened_hold : Hold opened
unfolding open_of station_at header_at field_at value_at refuse_if records_at end_at ends_at record_at pass_at bloom_at auto_gradient_at persistence_at
    lut_at curvature_at color_correction_at crt_at vignette_at scanlines_at count_at preset_at limited_at within_at raised_at finite_at of_bits lt eq neg
    limit_of plus_zero_of clamp_of
opened_hold = refl

-- Where reading stops. Accepted cards: the bit after the last field. Refused: no version (1), a torn strength (1), the version
-- (2), n (3), a kind (4, 5, 15), a strength that is a NaN, a depth of 9, a brightness of 2.0, preset 7 and a gamma above 4 (6), a byte left over and
-- a padding bit (7).
abbrev pub stopped_at : List (ℕ × ℕ)
stopped_at =
    (stopped_of (0x10 ∷ []), 8)
    ∷ (stopped_of (0x11 ∷ 0x48 ∷ 0 ∷ 0 ∷ 0 ∷ 0 ∷ 0x40 ∷ []), 53)
    ∷ (stopped_of [], 0)
    ∷ (stopped_of (0x11 ∷ 0xa8 ∷ 0 ∷ []), 13)
    ∷ (stopped_of (0x20 ∷ []), 0)
    ∷ (stopped_of (0x1d ∷ []), 4)
    ∷ (stopped_of (0x11 ∷ 0xb0 ∷ []), 8)
    ∷ (stopped_of (0x12 ∷ 0xa8 ∷ 0 ∷ 0 ∷ 0 ∷ 5 ∷ 0 ∷ []), 45)
    ∷ (stopped_of (0x12 ∷ 0xa8 ∷ 0 ∷ 0 ∷ 0 ∷ 4 ∷ 0xc0 ∷ 0 ∷ 0 ∷ 0 ∷ 0 ∷ []), 45)
    ∷ (stopped_of (0x11 ∷ 0xab ∷ 0xfe ∷ 0 ∷ 0 ∷ 0 ∷ []), 13)
    ∷ (stopped_of (0x11 ∷ 0x48 ∷ 0 ∷ 0 ∷ 0 ∷ 0 ∷ 0x48 ∷ []), 45)
    ∷ (stopped_of (0x11 ∷ 0x7a ∷ 0 ∷ 0 ∷ 0 ∷ 0 ∷ []), 13)
    ∷ (stopped_of (0x11 ∷ 0x5f ∷ []), 13)
    ∷ (stopped_of (of_gamma 0x4080_0001), 109)
    ∷ (stopped_of (0x10 ∷ 0 ∷ []), 8)
    ∷ (stopped_of (0x11 ∷ 0xa8 ∷ 0 ∷ 0 ∷ 0 ∷ 1 ∷ []), 45)
    ∷ []

pub stopped_at_hold : Hold stopped_at
unfolding stopped_of station_at header_at field_at value_at refuse_if records_at end_at ends_at record_at pass_at persistence_at lut_at
    color_correction_at scanlines_at count_at preset_at limited_at within_at raised_at finite_at of_bits lt eq neg limit_of plus_zero_of clamp_of
stopped_at_hold = refl

-- ● Card 11 AA 00 00 00 00 (scanlines, strength 2.0) normalises to 11 A9 FC 00 00 00. Card 10 is normalised; so is 11 48 00 00 00 00 08 once its depth is 1.
-- Gamma: -0, -1, the smallest subnormal and the binary32 just below all become 3C23D70A; that one, the next above it, 1.0 and 4.0 stay.
abbrev pub written : List (List ℕ × List ℕ)
written =
    (card_of (open_of (0x11 ∷ 0xaa ∷ 0 ∷ 0 ∷ 0 ∷ 0 ∷ [])).station, 0x11 ∷ 0xa9 ∷ 0xfc ∷ 0 ∷ 0 ∷ 0 ∷ [])
    ∷ (card_of (open_of (0x10 ∷ [])).station, 0x10 ∷ [])
    ∷ (card_of (open_of (0x11 ∷ 0x48 ∷ 0 ∷ 0 ∷ 0 ∷ 0 ∷ 0 ∷ [])).station, 0x11 ∷ 0x48 ∷ 0 ∷ 0 ∷ 0 ∷ 0 ∷ 8 ∷ [])
    ∷ (card_of (open_of (of_gamma 0x8000_0000)).station, of_gamma 0x3c23_d70a)
    ∷ (card_of (open_of (of_gamma 0xbf80_0000)).station, of_gamma 0x3c23_d70a)
    ∷ (card_of (open_of (of_gamma 1)).station, of_gamma 0x3c23_d70a)
    ∷ (card_of (open_of (of_gamma 0x3c23_d709)).station, of_gamma 0x3c23_d70a)
    ∷ (card_of (open_of (of_gamma 0x3c23_d70a)).station, of_gamma 0x3c23_d70a)
    ∷ (card_of (open_of (of_gamma 0x3c23_d70b)).station, of_gamma 0x3c23_d70b)
    ∷ (card_of (open_of (of_gamma 0x3f80_0000)).station, of_gamma 0x3f80_0000)
    ∷ (card_of (open_of (of_gamma 0x4080_0000)).station, of_gamma 0x4080_0000)
    ∷ []

pub written_hold : Hold written
unfolding open_of station_at header_at field_at value_at refuse_if records_at end_at ends_at record_at pass_at persistence_at color_correction_at
    scanlines_at count_at limited_at within_at raised_at finite_at of_bits to_bits lt eq neg limit_of plus_zero_of clamp_of card_of chain_card pack
    value_of chain_bits records_bits record_bits pass_bits bits
written_hold = refl
