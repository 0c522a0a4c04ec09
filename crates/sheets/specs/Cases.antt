-- The cases of a sheet, by computation: each list pairs what a definition gives with what it should give. Assumes nothing.
use Rattle.std.specs.Prelude.{ℕ, Bool, true, false, List, [], ◌∷◌, ◌≡◌, refl}
use Rattle.std.specs.Float.Ieee.{of_bits, of_int, add, sub, mul, div, lt, neg}
use Rattle.num.specs.Cases.{Hold}
use Rattle.num.specs.Const.{c0_5}
use Rattle.num.specs.Held.{same_held, fine_held}
use Rattle.num.specs.Refusals.{bad_side, unless}
use Rattle.num.specs.Rewrite.{rewrite}
use Rattle.num.specs.Steps.{clamp_of, cut_of}
use Rattle.num.specs.Sums.{sum}
use Rattle.passes.specs as Text
use Rattle.passes.specs.Fold.{fold}
use Rattle.passes.specs.Painted.{converted}
use Rattle.passes.specs.Plain.Persistence as Persistence
use Rattle.cards.specs.Answers.{Report, refusal, acceptance}
use Rattle.cards.specs.Bits.{value_at, field_at}
use Rattle.cards.specs.Card.{station_of, ends_at, end_at}
use Rattle.cards.specs.Normal.{settled, normal_pass, normal_chain, held_by, holding, good_station}
use Rattle.cards.specs.Records.{carded}
use Rattle.cards.specs.Step.{Step, took, refuse_if}
use Rattle.cards.specs.declared.station.Pass.TheVariants.{Persistence}
use Rattle.cards.specs.declared.station.Pending.TheVariants.{Nothing}
use Rattle.chain.specs.Agree.{opened}
use Rattle.chain.specs.Calls.{stops, lacks, ask_stops, commit_stops, on_first, presets, shown_by, frame_reply_by}
use Rattle.chain.specs.Chain.{over_by, turn_by, chain_by, depth, reads_curve}
use Rattle.chain.specs.Machine.{State, call, after}
use Rattle.sheets.specs.Events.{Event, frame, reset, switch, step, ask, commit, words_at, frame_at, switch_at, event_at, events_at, rest_at, sheet_at}
use Rattle.sheets.specs.Play.{Lent, Playing, Outcome, begun, turn, turns, play_of}
use Rattle.sheets.specs.Promises.{is_taken}

-- ## Reading

-- one event of each kind: a white frame of 1 by 1, a reset, persistence off, a preset step, persistence on asked for, a commit
abbrev pub each : List ℕ
each = 0 ∷ 0x6 ∷ 0 ∷ 0x4 ∷ 0 ∷ 0xff ∷ 0xff ∷ 0xff ∷ 0x94 ∷ 0x87 ∷ 0x13 ∷ 0x40 ∷ []

-- a white frame of 1 by 1 alone: it ends one bit into its last byte
abbrev pub white : List ℕ
white = 0 ∷ 0x1 ∷ 0 ∷ 0x4 ∷ 0 ∷ 0xff ∷ 0xff ∷ 0xff ∷ 0x80 ∷ []

-- no event; each kind; a frame without words, and a kind that no pass has: they are a station's to refuse
abbrev pub read : List (Step (List Event) × Step (List Event))
read =
    (sheet_at (0 ∷ 0 ∷ []) 0, took [] 16)
    ∷ (
      sheet_at each 0,
      took (frame 1 1 (0xffffff ∷ []) ∷ reset ∷ switch 4 false ∷ step ∷ ask 4 true ∷ commit ∷ []) 90,
    )
    ∷ (sheet_at white 0, took (frame 1 1 (0xffffff ∷ []) ∷ []) 65)
    ∷ (sheet_at (0 ∷ 0x2 ∷ 0 ∷ 0 ∷ 0x1 ∷ 0x90 ∷ []) 0, took (frame 0 3 [] ∷ reset ∷ []) 44)
    ∷ (sheet_at (0 ∷ 0x2 ∷ 0x5f ∷ 0x20 ∷ []) 0, took (switch 15 true ∷ reset ∷ []) 27)
    ∷ []

-- no byte; half of the event count; one bit short; a padding bit set; a byte left over; events 6 and 7; one event fewer than the count says
abbrev pub whole : List (Bool × Bool)
whole =
    (is_taken (sheet_at [] 0), false)
    ∷ (is_taken (sheet_at (0 ∷ []) 0), false)
    ∷ (is_taken (sheet_at (0 ∷ 0x1 ∷ 0 ∷ 0x4 ∷ 0 ∷ 0xff ∷ 0xff ∷ 0xff ∷ []) 0), false)
    ∷ (is_taken (sheet_at (0 ∷ 0x1 ∷ 0 ∷ 0x4 ∷ 0 ∷ 0xff ∷ 0xff ∷ 0xff ∷ 0x81 ∷ []) 0), false)
    ∷ (is_taken (sheet_at (0 ∷ 0x1 ∷ 0 ∷ 0x4 ∷ 0 ∷ 0xff ∷ 0xff ∷ 0xff ∷ 0x80 ∷ 0 ∷ []) 0), false)
    ∷ (is_taken (sheet_at (0 ∷ 0x1 ∷ 0xc0 ∷ []) 0), false)
    ∷ (is_taken (sheet_at (0 ∷ 0x1 ∷ 0xe0 ∷ []) 0), false)
    ∷ (is_taken (sheet_at (0 ∷ 0x2 ∷ 0x20 ∷ []) 0), false)
    ∷ []

pub read_hold : Hold read
unfolding sheet_at rest_at events_at event_at frame_at switch_at words_at field_at value_at end_at ends_at refuse_if
read_hold = refl

pub whole_hold : Hold whole
unfolding sheet_at rest_at events_at event_at frame_at switch_at words_at field_at value_at end_at ends_at refuse_if
whole_hold = refl

-- ## Playing

-- persistence 0.5 of depth 1, with an own buffer of two words
abbrev half : State
half = opened (station_of (carded true (Persistence c0_5 1) ∷ [])) (1 ∷ 2 ∷ [])

-- a station that no card opens: it says that it has thirteen records
abbrev broken : State
broken = opened (record { records = []; n = 13; pending = Nothing }) (1 ∷ 2 ∷ [])

abbrev plenty : Lent
plenty = record { history = 2; floats = 99; ints = 9; curve = [] }

-- the answer, the framebuffer and the history
abbrev left : Outcome → Report × List ℕ × List ℕ
left o = (o.answer, o.playing.words, o.playing.state.history)

-- Each event: the preset step is refused, since there is no LUT. White and then black: the second is mixed with the first. A frame of two words in a
-- framebuffer of one is refused, and none of its words is written; the reset after it is accepted. No event. A bad sheet, by which nothing changes, and a bad
-- station before it.
abbrev pub played : List ((Report × List ℕ × List ℕ) × (Report × List ℕ × List ℕ))
played =
    (left (play_of plenty each half (7 ∷ 9 ∷ [])), (acceptance (5 ∷ 1 ∷ []), 0xffffff ∷ 9 ∷ [], 0xffffff ∷ 2 ∷ []))
    ∷ (
      left (play_of plenty (0 ∷ 2 ∷ 0 ∷ 4 ∷ 0 ∷ 0xff ∷ 0xff ∷ 0xff ∷ 0x80 ∷ 2 ∷ 0 ∷ 0x40 ∷ 0 ∷ 0 ∷ 0 ∷ []) half (7 ∷ 9 ∷ [])),
      (acceptance (2 ∷ 0 ∷ []), 0x555555 ∷ 9 ∷ [], 0 ∷ 2 ∷ []),
    )
    ∷ (
      left (play_of plenty (0 ∷ 2 ∷ 0 ∷ 8 ∷ 0 ∷ 0x88 ∷ 0x91 ∷ 0x19 ∷ 0xa2 ∷ 0x2a ∷ 0xb3 ∷ 0x10 ∷ []) half (7 ∷ [])),
      (acceptance (1 ∷ 1 ∷ []), 7 ∷ [], 1 ∷ 2 ∷ []),
    )
    ∷ (left (play_of plenty (0 ∷ 0 ∷ []) half (7 ∷ [])), (acceptance (0 ∷ 0 ∷ []), 7 ∷ [], 1 ∷ 2 ∷ []))
    ∷ (left (play_of plenty (0 ∷ 0 ∷ 0 ∷ []) half (7 ∷ [])), (refusal 20, 7 ∷ [], 1 ∷ 2 ∷ []))
    ∷ (left (play_of plenty (0 ∷ 0 ∷ 0 ∷ []) broken (7 ∷ [])), (refusal 13, 7 ∷ [], 1 ∷ 2 ∷ []))
    ∷ []

pub played_hold : Hold played
unfolding play_of turns turn sheet_at rest_at events_at event_at frame_at switch_at words_at field_at value_at end_at ends_at refuse_if after call
    lacks ask_stops commit_stops on_first frame_reply_by unless shown_by stops bad_side good_station fine_held same_held normal_chain normal_pass
    settled held_by holding depth reads_curve fold chain_by turn_by over_by of_bits of_int add sub mul div neg lt clamp_of cut_of rewrite sum
    converted Text.Pixel.unpack Text.Pixel.pack Text.Pixel.pack_clamped Text.Pixel.clip Text.Pixel.clips Text.Persistence.persistence
    Text.Persistence.decay Text.Persistence.total Text.Persistence.add Text.Persistence.mix Text.Persistence.blend Persistence.copies
    Persistence.refilled Persistence.shifted presets
played_hold = refl

-- A frame of 2047 by 1, whatever its words, is refused, and play goes on with the reset after it (proofs/Examples.antt).
abbrev pub Too-wide : Type 0
Too-wide =
    (pixels : List ℕ) →
    let p : Playing = turns plenty (frame 2047 1 pixels ∷ reset ∷ []) (begun half (7 ∷ [])) in
    (p.accepted ≡ 1) × (p.refused ≡ 1) × (p.words ≡ 7 ∷ [])
