-- Document 01's worked example of program `station`: what its input prints, by computation. Assumes nothing.
use Rattle.std.specs.Prelude.{ℕ, List, [], ◌∷◌, ◌≡◌, refl}
use Rattle.std.specs.Float.Ieee.{of_bits, of_int, sub, mul, div, lt}
use Rattle.num.specs.Held.{same_held, fine_held}
use Rattle.num.specs.Refusals.{bad_side, unless}
use Rattle.num.specs.F32.{dec}
use Rattle.passes.specs as Text
use Rattle.passes.specs.Fold.{fold}
use Rattle.num.specs.Rewrite.{rewrite}
use Rattle.num.specs.Steps.{cut_of, plus_zero_of, limit_of}
use Rattle.cards.specs.Bits.{value_at, field_at}
use Rattle.chain.specs.Calls.{stops, lacks, shown_by, frame_reply_by}
use Rattle.cards.specs.Card.{header_at, records_at, ends_at, end_at, station_at, open_of}
use Rattle.chain.specs.Chain.{wash, over_by, turn_by, chain_by, depth, reads_curve}
use Rattle.cards.specs.Normal.{settled, normal_pass, normal_chain, held_by, holding, good_station}
use Rattle.cards.specs.Passes.{pass_at, scanlines_at}
use Rattle.cards.specs.Records.{record_at}
use Rattle.cards.specs.Settings.{finite_at, limited_at}
use Rattle.cards.specs.Step.{refuse_if}
use Rattle.raster.specs.Pixels.{unpacked}
use Rattle.events.specs.Events.{head_wanted, card_in, outside, frame_wanted, event_wanted, frame_fault, event_fault}
use Rattle.events.specs.Play.{called, played_of}
use Rattle.events.specs.Program.{event_lines, printed}
use Rattle.events.specs.Text.{F, R, E, space, newline, decimal, pixels_of}

-- 06 11 A9 F8 00 00 00 46 01 02 FF FF FF 64 64 64 52
abbrev pub input : List ℕ
input = 0x06 ∷ 0x11 ∷ 0xa9 ∷ 0xf8 ∷ 0 ∷ 0 ∷ 0 ∷ F ∷ 1 ∷ 2 ∷ 0xff ∷ 0xff ∷ 0xff ∷ 0x64 ∷ 0x64 ∷ 0x64 ∷ R ∷ []

-- F FFFFFF 323232, then E 12
abbrev pub lines : List ℕ
lines =
    F ∷ space ∷ 70 ∷ 70 ∷ 70 ∷ 70 ∷ 70 ∷ 70 ∷ space ∷ 51 ∷ 50 ∷ 51 ∷ 50 ∷ 51 ∷ 50 ∷ newline
    ∷ E ∷ space ∷ 49 ∷ 50 ∷ newline ∷ []

pub worked : printed input ≡ lines
unfolding dec of_bits of_int sub mul div lt cut_of plus_zero_of limit_of rewrite fold same_held fine_held Text.Pixel.unpack
    Text.Pixel.pack Text.Pixel.dim Text.Scanlines.scanlines Text.Scanlines.in_row open_of station_at header_at field_at
    value_at refuse_if records_at end_at ends_at record_at pass_at scanlines_at finite_at limited_at frame_reply_by unless shown_by
    stops lacks bad_side good_station normal_chain normal_pass settled held_by holding depth reads_curve chain_by turn_by over_by wash
    head_wanted card_in outside frame_wanted event_wanted frame_fault event_fault unpacked called played_of event_lines printed
    decimal pixels_of
worked = refl
