-- Worked cases of printing. Each list pairs what a definition gives with what it should give, and one proof by computation holds the whole list. Assumes
-- nothing.
use Rattle.std.specs.Prelude.{ℕ, true, false, List, [], ◌∷◌, ◌++◌, Result, Ok, Err, refl, replicate, take}
use Rattle.std.specs.Float.{binary32}
use Rattle.std.specs.Float.Ieee.{of_bits, neg, lt}
use Rattle.num.specs.Cases.{Hold}
use Rattle.num.specs.Const.{c0_0, c0_5, c1_0}
use Rattle.num.specs.Held.{same_held, fine_held}
use Rattle.cards.specs.Card.{station_of}
use Rattle.cards.specs.Normal.{good_station, normal_chain, normal_pass, settled, held_by, holding}
use Rattle.cards.specs.Records.{carded}
use Rattle.cards.specs.declared.station.Pass.TheVariants.{Bloom, Lut, ColorCorrection, Scanlines}
use Rattle.cards.specs.declared.station.Record.{Record}
use Rattle.inspect.specs.Decimal.{spelled, whole_of, places_of, negative_of}
use Rattle.texts.specs.Print.{down, pointed, real_text, whole_text, setting_text, settings_text, line_text, lines_text, text_of}
use Rattle.texts.specs.Print.{print_reply, print_into}
use Rattle.texts.specs.Words.{ascii}
use Rattle.num.specs.declared.refusal.Refusal.{Refusal}
use Rattle.num.specs.declared.refusal.Refusal.TheVariants.{BadStation, ShortCardBuffer}

-- ## Numbers

-- 0.5, 0, -1, 0.25, 4, 0.01 as it is stored, and a value a little above 3
abbrev pub reals : List (List ℕ × List ℕ)
reals =
    (real_text (of_bits binary32 0x3f00_0000), ascii "0.5")
    ∷ (real_text (of_bits binary32 0), ascii "0")
    ∷ (real_text (of_bits binary32 0xbf80_0000), ascii "-1")
    ∷ (real_text (of_bits binary32 0x3e80_0000), ascii "0.25")
    ∷ (real_text (of_bits binary32 0x4080_0000), ascii "4")
    ∷ (real_text (of_bits binary32 0x3c23_d70a), ascii "0.00999999977648258209228515625")
    ∷ (real_text (of_bits binary32 0x4040_0002), ascii "3.000000476837158203125")
    ∷ []

pub reals_hold : Hold reals
unfolding of_bits real_text pointed down spelled whole_of places_of negative_of
reals_hold = refl

abbrev pub wholes : List (List ℕ × List ℕ)
wholes =
    (whole_text 0, ascii "0")
    ∷ (whole_text 9, ascii "9")
    ∷ (whole_text 10, ascii "10")
    ∷ (whole_text 99, ascii "99")
    ∷ (whole_text 100, ascii "100")
    ∷ (whole_text 255, ascii "255")
    ∷ []

pub wholes_hold : Hold wholes
unfolding whole_text
wholes_hold = refl

-- ## Chains

abbrev lines : Record
lines = carded true (Scanlines c0_5)

-- scanlines; bloom that is off, and scanlines; a LUT; colour; no pass
abbrev pub chains : List (List ℕ × List ℕ)
chains =
    (text_of (lines ∷ []), ascii "scanlines, on: strength 0.5\n")
    ∷ (text_of (carded false (Bloom 128 c1_0 3) ∷ lines ∷ []), ascii "bloom, off: threshold 128, strength 1, radius 3\nscanlines, on: strength 0.5\n")
    ∷ (text_of (carded true (Lut 5 c0_5) ∷ []), ascii "LUT, on: preset amber, strength 0.5\n")
    ∷ (text_of (carded true (ColorCorrection (neg c1_0) c0_0 c1_0 c0_5) ∷ []), ascii "colour, on: brightness -1, contrast 0, saturation 1, gamma 0.5\n")
    ∷ (text_of [], ascii "none\n")
    ∷ []

pub chains_hold : Hold chains
unfolding of_bits neg text_of lines_text line_text settings_text setting_text whole_text real_text pointed down spelled whole_of places_of negative_of
chains_hold = refl

-- the answer for a chain of one pass on a buffer of n sevens, and the first thirty bytes of what is left of it
abbrev pub printed : Record → ℕ → Result ℕ Refusal × List ℕ
printed r n = let s = station_of (r ∷ []) in (print_reply s (replicate n 7), take 30 (print_into s (replicate n 7)))

-- scanlines; on a buffer that is one byte short; scanlines with a strength of -1, which no card gives, also on a short buffer
abbrev pub answers : List ((Result ℕ Refusal × List ℕ) × (Result ℕ Refusal × List ℕ))
answers =
    (printed lines 8192, (Ok 28, ascii "scanlines, on: strength 0.5\n" ++ 7 ∷ 7 ∷ []))
    ∷ (printed lines 8191, (Err ShortCardBuffer, replicate 30 7))
    ∷ (printed (carded true (Scanlines (neg c1_0))) 30, (Err BadStation, replicate 30 7))
    ∷ []

pub answers_hold : Hold answers
unfolding of_bits neg lt good_station normal_chain normal_pass settled held_by holding same_held fine_held print_reply print_into text_of lines_text line_text
    settings_text setting_text real_text pointed down spelled whole_of places_of negative_of
answers_hold = refl
