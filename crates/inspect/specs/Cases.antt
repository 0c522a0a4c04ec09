-- Worked cases. Each list pairs what a definition gives with what it should give, and one proof by computation holds the whole list. Assumes nothing.
use Rattle.std.specs.Prelude.{ℕ, ◌^◌, Bool, true, false, List, [], ◌∷◌, Option, Some, None, Result, Ok, Err, refl, Float, replicate}
use Rattle.std.specs.Float.{nan, binary32}
use Rattle.std.specs.Float.Ieee.{of_bits, to_bits, round, lt, eq, neg}
use Rattle.num.specs.Cases.{Hold}
use Rattle.num.specs.Const.{c0_0, c0_5, c1_0}
use Rattle.num.specs.Refusals.{bad_side}
use Rattle.num.specs.Steps.{clamp_of, plus_zero_of, limit_of}
use Rattle.cards.specs.Step.{refuse_if}
use Rattle.cards.specs.Bits.{value_at, field_at}
use Rattle.cards.specs.Settings.{finite_at, limited_at}
use Rattle.cards.specs.Passes.{pass_at, scanlines_at, vignette_at}
use Rattle.cards.specs.Records.{carded, record_at}
use Rattle.cards.specs.Card.{station_of, header_at, records_at, ends_at, end_at, station_at, open_of}
use Rattle.cards.specs.declared.station.Pass.TheVariants.{Bloom, Scanlines}
use Rattle.cards.specs.declared.station.Record.{Record}
use Rattle.inspect.specs.Decimal.{whole_of, places_of, negative_of, point_of}
use Rattle.inspect.specs.Difference.{settings_difference, record_difference, chain_difference, difference_of}
use Rattle.inspect.specs.Extent.{step_of, read_of, extent_by, extent_of}
use Rattle.inspect.specs.Hexadecimal.{digit_of, hex_of, decode_answer, decode_into}
use Rattle.inspect.specs.Layout.{widths_of, setting_in, end_of, in_record, field_from, field_of}
use Rattle.inspect.specs.declared.decimal.Point.{Point}
use Rattle.inspect.specs.declared.difference.Difference.{Difference}
use Rattle.inspect.specs.declared.difference.Difference.TheVariants.{Length, Kind, Switch, Setting}
use Rattle.inspect.specs.declared.extent.Extent.{Extent}
use Rattle.inspect.specs.declared.layout.Field.{Field}
use Rattle.inspect.specs.declared.hexadecimal.DecodeError.{DecodeError}
use Rattle.inspect.specs.declared.hexadecimal.DecodeError.TheVariants.{NotHexadecimal, NoRoom}

-- ## The first difference

-- of the chains that two cards open
abbrev pub between : List ℕ → List ℕ → Option Difference
between card other = difference_of (open_of card).station (open_of other).station

-- a card of one pass: the second byte begins with its kind and its switch, and the bits of its one setting follow
abbrev single : (second third : ℕ) → List ℕ
single second third = 0x11 ∷ second ∷ third ∷ 0 ∷ 0 ∷ 0 ∷ []

-- Scanlines at 2.0 and at 1.0, at 0.5 and at 1.0; none and one pass; scanlines on and off; scanlines and vignette.
abbrev pub of_cards : List (Option Difference × Option Difference)
of_cards =
    (between (single 0xaa 0) (single 0xa9 0xfc), None)
    ∷ (between (single 0xa9 0xf8) (single 0xa9 0xfc), Some (Setting 0 0))
    ∷ (between (0x10 ∷ []) (single 0xa9 0xfc), Some (Length 0))
    ∷ (between (single 0xa9 0xfc) (single 0xa1 0xfc), Some (Switch 0))
    ∷ (between (single 0xa9 0xfc) (single 0x99 0xfc), Some (Kind 0))
    ∷ []

pub of_cards_hold : Hold of_cards
unfolding open_of station_at header_at field_at value_at refuse_if records_at end_at ends_at record_at pass_at scanlines_at vignette_at limited_at finite_at
    of_bits to_bits lt eq limit_of plus_zero_of clamp_of difference_of chain_difference record_difference settings_difference
of_cards_hold = refl

-- scanlines at a strength, and bloom before them, off, with a radius
abbrev lines : Float → Record
lines strength = carded true (Scanlines strength)

abbrev glowing : ℕ → Record
glowing radius = carded false (Bloom 128 c0_5 radius)

-- of two chains, in stations as opened
abbrev chains : List Record → List Record → Option Difference
chains rs qs = difference_of (station_of rs) (station_of qs)

-- The third setting of the first pass; one pass more; the first of two differences; 0 and -0, which differ in a bit; a NaN and itself.
abbrev pub of_chains : List (Option Difference × Option Difference)
of_chains =
    (chains (glowing 3 ∷ lines c1_0 ∷ []) (glowing 4 ∷ lines c1_0 ∷ []), Some (Setting 0 2))
    ∷ (chains (glowing 3 ∷ lines c1_0 ∷ []) (glowing 3 ∷ []), Some (Length 1))
    ∷ (chains (glowing 3 ∷ lines c1_0 ∷ []) (glowing 3 ∷ lines c0_5 ∷ []), Some (Setting 1 0))
    ∷ (chains (glowing 3 ∷ lines c1_0 ∷ []) (glowing 4 ∷ []), Some (Setting 0 2))
    ∷ (chains (lines c0_0 ∷ []) (lines (neg c0_0) ∷ []), Some (Setting 0 0))
    ∷ (chains (lines nan ∷ []) (lines nan ∷ []), None)
    ∷ []

pub of_chains_hold : Hold of_chains
unfolding of_bits to_bits neg difference_of chain_difference record_difference settings_difference
of_chains_hold = refl

-- ## Hexadecimal text

-- The ends of the three ranges of digits, and the bytes beside them.
abbrev pub digits : List (ℕ × ℕ)
digits =
    (digit_of 48, 0)
    ∷ (digit_of 57, 9)
    ∷ (digit_of 65, 10)
    ∷ (digit_of 70, 15)
    ∷ (digit_of 97, 10)
    ∷ (digit_of 102, 15)
    ∷ (digit_of 47, 16)
    ∷ (digit_of 58, 16)
    ∷ (digit_of 64, 16)
    ∷ (digit_of 71, 16)
    ∷ (digit_of 96, 16)
    ∷ (digit_of 103, 16)
    ∷ []

pub digits_hold : Hold digits
digits_hold = refl

-- the answer, and what is left of a buffer of n sevens
abbrev pub decoded : List ℕ → ℕ → Result ℕ DecodeError × List ℕ
decoded text n = (decode_answer text (replicate n 7), decode_into text (replicate n 7))

-- `11 a9F800 00 00`: scanlines at 0.5
abbrev half : List ℕ
half = 49 ∷ 49 ∷ 32 ∷ 97 ∷ 57 ∷ 70 ∷ 56 ∷ 48 ∷ 48 ∷ 32 ∷ 48 ∷ 48 ∷ 32 ∷ 48 ∷ 48 ∷ []

-- The card, with room to spare, with just enough, and with a byte too little; nothing; two spaces; a pair between spaces; a
-- lone digit; `1g`; `1 1`; a pair and a lone digit.
abbrev pub texts : List ((Result ℕ DecodeError × List ℕ) × (Result ℕ DecodeError × List ℕ))
texts =
    (decoded half 8, (Ok 6, 0x11 ∷ 0xa9 ∷ 0xf8 ∷ 0 ∷ 0 ∷ 0 ∷ 7 ∷ 7 ∷ []))
    ∷ (decoded half 6, (Ok 6, 0x11 ∷ 0xa9 ∷ 0xf8 ∷ 0 ∷ 0 ∷ 0 ∷ []))
    ∷ (decoded half 5, (Err NoRoom, replicate 5 7))
    ∷ (decoded [] 2, (Ok 0, replicate 2 7))
    ∷ (decoded (32 ∷ 32 ∷ []) 2, (Ok 0, replicate 2 7))
    ∷ (decoded (32 ∷ 49 ∷ 49 ∷ 32 ∷ []) 2, (Ok 1, 0x11 ∷ 7 ∷ []))
    ∷ (decoded (49 ∷ []) 2, (Err NotHexadecimal, replicate 2 7))
    ∷ (decoded (49 ∷ 103 ∷ []) 2, (Err NotHexadecimal, replicate 2 7))
    ∷ (decoded (49 ∷ 32 ∷ 49 ∷ []) 2, (Err NotHexadecimal, replicate 2 7))
    ∷ (decoded (49 ∷ 49 ∷ 49 ∷ []) 2, (Err NotHexadecimal, replicate 2 7))
    ∷ []

pub texts_hold : Hold texts
unfolding decode_answer decode_into hex_of
texts_hold = refl

-- ## Decimal digits

-- the digits of a pattern as one number, and its point
abbrev pub decimal : ℕ → ℕ × Point
decimal bits = let x = of_bits binary32 bits in (whole_of x, point_of x)

abbrev signed : Bool → ℕ → Point
signed negative places = record { negative = negative; places = places }

-- 0.25, -2.5, 10, 2 ^ 30, 0.1 as it is stored; 0, -0, an infinity and a NaN
abbrev pub decimals : List ((ℕ × Point) × (ℕ × Point))
decimals =
    (decimal 0x3e80_0000, (25, signed false 2))
    ∷ (decimal 0xc020_0000, (25, signed true 1))
    ∷ (decimal 0x4120_0000, (10, signed false 0))
    ∷ (decimal 0x4e80_0000, (1073741824, signed false 0))
    ∷ (decimal 0x3dcc_cccd, (100000001490116119384765625, signed false 27))
    ∷ (decimal 0, (0, signed false 0))
    ∷ (decimal 0x8000_0000, (0, signed true 0))
    ∷ (decimal 0xff80_0000, (0, signed false 0))
    ∷ (decimal 0x7fc0_0000, (0, signed false 0))
    ∷ []

pub decimals_hold : Hold decimals
unfolding of_bits whole_of places_of negative_of
decimals_hold = refl

-- the nearest to n / 10 ^ p, by its pattern
abbrev pub near : ℕ → ℕ → ℕ
near n p = to_bits binary32 (round binary32 false n (10 ^ p))

-- 0.1; 2 ^ 24 + 1 and 2 ^ 24 + 3, which lie midway between two and go to the even one; a little less than half of the smallest positive value,
-- and a little more
abbrev pub nears : List (ℕ × ℕ)
nears =
    (near 1 1, 0x3dcc_cccd)
    ∷ (near 16777217 0, 0x4b80_0000)
    ∷ (near 16777219 0, 0x4b80_0002)
    ∷ (near 7006492321624085 61, 0)
    ∷ (near 7006492321624086 61, 1)
    ∷ []

pub nears_hold : Hold nears
unfolding round to_bits
nears_hold = refl

-- ## A size in words

-- `640x480`, `0640x00480`, `1x1024`; `1025x1`, `1x1025`, `0x1`, `1x0`, `640x`, `x480`, `640`, nothing, `1x2x3`, `x1x2`, ` 1x2`, `1x2 `, `1X2`, `Ax2`, `+1x2`,
-- and 2 ^ 64 + 1 for the width
abbrev pub sizes : List (Option Extent × Option Extent)
sizes =
    (extent_of (54 ∷ 52 ∷ 48 ∷ 120 ∷ 52 ∷ 56 ∷ 48 ∷ []), Some (record { width = 640; height = 480 }))
    ∷ (extent_of (48 ∷ 54 ∷ 52 ∷ 48 ∷ 120 ∷ 48 ∷ 48 ∷ 52 ∷ 56 ∷ 48 ∷ []), Some (record { width = 640; height = 480 }))
    ∷ (extent_of (49 ∷ 120 ∷ 49 ∷ 48 ∷ 50 ∷ 52 ∷ []), Some (record { width = 1; height = 1024 }))
    ∷ (extent_of (49 ∷ 48 ∷ 50 ∷ 53 ∷ 120 ∷ 49 ∷ []), None)
    ∷ (extent_of (49 ∷ 120 ∷ 49 ∷ 48 ∷ 50 ∷ 53 ∷ []), None)
    ∷ (extent_of (48 ∷ 120 ∷ 49 ∷ []), None)
    ∷ (extent_of (49 ∷ 120 ∷ 48 ∷ []), None)
    ∷ (extent_of (54 ∷ 52 ∷ 48 ∷ 120 ∷ []), None)
    ∷ (extent_of (120 ∷ 52 ∷ 56 ∷ 48 ∷ []), None)
    ∷ (extent_of (54 ∷ 52 ∷ 48 ∷ []), None)
    ∷ (extent_of [], None)
    ∷ (extent_of (49 ∷ 120 ∷ 50 ∷ 120 ∷ 51 ∷ []), None)
    ∷ (extent_of (120 ∷ 49 ∷ 120 ∷ 50 ∷ []), None)
    ∷ (extent_of (32 ∷ 49 ∷ 120 ∷ 50 ∷ []), None)
    ∷ (extent_of (49 ∷ 120 ∷ 50 ∷ 32 ∷ []), None)
    ∷ (extent_of (49 ∷ 88 ∷ 50 ∷ []), None)
    ∷ (extent_of (65 ∷ 120 ∷ 50 ∷ []), None)
    ∷ (extent_of (43 ∷ 49 ∷ 120 ∷ 50 ∷ []), None)
    ∷ (extent_of (49 ∷ 56 ∷ 52 ∷ 52 ∷ 54 ∷ 55 ∷ 52 ∷ 52 ∷ 48 ∷ 55 ∷ 51 ∷ 55 ∷ 48 ∷ 57 ∷ 53 ∷ 53 ∷ 49 ∷ 54 ∷ 49 ∷ 55 ∷ 120 ∷ 49 ∷ []), None)
    ∷ []

pub sizes_hold : Hold sizes
unfolding extent_of extent_by read_of step_of bad_side
sizes_hold = refl

-- ## The field that a bit lies in

-- persistence 0.5, depth 2, on; LUT, preset 3, strength 0, off
abbrev pub field_in : ℕ → Field
field_in at = field_of (0x12 ∷ 0x49 ∷ 0xf8 ∷ 0 ∷ 0 ∷ 0 ∷ 0x12 ∷ 0x98 ∷ 0 ∷ 0 ∷ 0 ∷ 0 ∷ []) at

-- the first bit of each field, and the last of some
abbrev pub fields : List (Field × Field)
fields =
    (field_in 0, Field.Version)
    ∷ (field_in 3, Field.Version)
    ∷ (field_in 4, Field.Passes)
    ∷ (field_in 8, Field.Kind 0)
    ∷ (field_in 12, Field.Switch 0 4)
    ∷ (field_in 13, Field.Setting 0 4 0)
    ∷ (field_in 44, Field.Setting 0 4 0)
    ∷ (field_in 45, Field.Setting 0 4 1)
    ∷ (field_in 53, Field.Kind 1)
    ∷ (field_in 57, Field.Switch 1 5)
    ∷ (field_in 58, Field.Setting 1 5 0)
    ∷ (field_in 61, Field.Setting 1 5 1)
    ∷ (field_in 92, Field.Setting 1 5 1)
    ∷ (field_in 93, Field.Rest)
    ∷ []

pub fields_hold : Hold fields
unfolding field_of field_from in_record setting_in end_of widths_of field_at value_at
fields_hold = refl
