-- Demand 3 is not empty: two cards of one station, runs of the plain machine that are computed, with the points of agreement of several lists, and the theorem
-- at these stations. Assumes nothing.
use Prim.Native.Nat.{ℕ}
use native.Mathlib.Omega.{arith}
use mathlib.Core.Path.{◌≡◌, refl}
use mathlib.Core.Bool.{true, false}
use mathlib.Core.List.{List, [], ◌∷◌, map}
use lib.Ieee.{of_bits, of_int, add, mul, div, lt, eq}
use lib.ListN.{drop}
use Rattle.num.specs.Cases.{Hold}
use Rattle.num.specs.Const.{c0_30, c0_5, c1_0}
use Rattle.num.specs.Held.{same_held, fine_held}
use Rattle.num.specs.Refusals.{bad_side, unless}
use Rattle.num.specs.Rewrite.{rewrite}
use Rattle.num.specs.Steps.{clamp_of, cut_of, plus_zero_of, limit_of}
use Rattle.num.specs.Sums.{sum}
use Rattle.passes.specs as Text
use Rattle.passes.specs.Fold.{fold}
use Rattle.passes.specs.Painted.{converted}
use Rattle.passes.specs.Plain.Persistence as Persistence
use Rattle.chain.specs.Agree.{opened, SameCall, frames, none, more, before, point}
use Rattle.cards.specs.Bits.{value_at, field_at}
use Rattle.cards.specs.Answers.{Report, refusal, acceptance}
use Rattle.chain.specs.Calls.{stops, lacks, ask_stops, commit_stops, on_first, presets, shown_by}
use Rattle.chain.specs.Calls.{frame_reply_by, of_first, depth_stops, redepth, depth_reply}
use Rattle.cards.specs.Card.{station_of, header_at, records_at, ends_at, end_at, station_at, accepted, open_of}
use Rattle.chain.specs.Chain.{wash, over_by, turn_by, chain_by, depth, depth_on, reads_curve, record_samples}
use Rattle.chain.specs.Machine.{Call, frame, reset, switch, ask, commit, step, new_depth, State, Seen, call, after, run, saw}
use Rattle.cards.specs.Normal.{settled, normal_pass, normal_chain, persists, held_by, holding, good_station}
use Rattle.cards.specs.Passes.{pass_at, persistence_at, lut_at}
use Rattle.cards.specs.Records.{carded, record_at}
use Rattle.cards.specs.Settings.{finite_at, limited_at, count_at, preset_at}
use Rattle.cards.specs.Step.{refuse_if}
use Rattle.cards.specs.declared.station.Pass.TheVariants.{Persistence, Lut}
use Rattle.cards.specs.declared.station.Station.{Station}
use Rattle.chain.proofs.Agreement.{machines_agree}

-- ## Two cards

-- persistence 0.5 of depth 2, on, and a LUT of preset 6, off; on one card the LUT has strength 2.0, which is limited to 1.0
abbrev card : List ℕ
card = 0x12 ∷ 0x49 ∷ 0xf8 ∷ 0 ∷ 0 ∷ 0 ∷ 0x12 ∷ 0xb2 ∷ 0 ∷ 0 ∷ 0 ∷ 0 ∷ []

abbrev other : List ℕ
other = 0x12 ∷ 0x49 ∷ 0xf8 ∷ 0 ∷ 0 ∷ 0 ∷ 0x12 ∷ 0xb1 ∷ 0xfc ∷ 0 ∷ 0 ∷ 0 ∷ []

abbrev station : Station
station = station_of (carded true (Persistence c0_5 2) ∷ carded false (Lut 6 c1_0) ∷ [])

opens : open_of card ≡ accepted station
unfolding open_of station_at header_at field_at value_at refuse_if records_at end_at ends_at record_at pass_at persistence_at lut_at
    preset_at count_at limited_at finite_at of_bits lt eq limit_of plus_zero_of clamp_of
opens = refl

opens_other : open_of other ≡ accepted station
unfolding open_of station_at header_at field_at value_at refuse_if records_at end_at ends_at record_at pass_at persistence_at lut_at
    preset_at count_at limited_at finite_at of_bits lt eq limit_of plus_zero_of clamp_of
opens_other = refl

-- ## Runs

-- a frame of one pixel in a framebuffer of two words, with two history words lent
abbrev one : (spare p : ℕ) → Call
one spare p = frame 1 1 (p ∷ spare ∷ []) 2 6 1 []

-- with one history word lent it is refused
abbrev short : Call
short = frame 1 1 (0 ∷ 0 ∷ []) 1 6 1 []

-- shared, but for the word past count
abbrev shared : (spare : ℕ) → List Call
shared spare = one spare 0 ∷ one spare 0x404040 ∷ one spare 0x808080 ∷ one spare 0xffffff ∷ []

-- one station has had a white frame, a refused frame and a preset step seven times round; the other nothing
abbrev own : List Call
own = one 0 0xffffff ∷ short ∷ step ∷ step ∷ step ∷ step ∷ step ∷ step ∷ step ∷ []

abbrev old : State
old = run (opened station (90 ∷ 91 ∷ 92 ∷ [])) own

abbrev new : State
new = opened station (5 ∷ 6 ∷ [])

-- the same two with own buffers of four words, and frames that lend all of them: a shared frame, depth 4, and frames after it
abbrev wide : ℕ → Call
wide p = frame 1 1 (p ∷ 0 ∷ []) 4 6 1 []

abbrev deepened : List Call
deepened = wide 0 ∷ new_depth 4 4 ∷ wide 0x404040 ∷ wide 0x808080 ∷ wide 0xffffff ∷ wide 0 ∷ []

abbrev old-wide : State
old-wide = run (opened station (90 ∷ 91 ∷ 92 ∷ 93 ∷ [])) own

abbrev new-wide : State
new-wide = opened station (5 ∷ 6 ∷ 7 ∷ 8 ∷ [])

abbrev pictures : List Seen → List (List ℕ)
pictures = map (λ s. s.picture)

abbrev answers : List Seen → List Report
answers = map (λ s. s.answer)

-- Before the point the pictures differ, from it on they agree: it can come no sooner. After a reset, and after persistence was switched off, at once or asked
-- for and committed, and on, the old station shows what the new one does. After a change of depth they differ in a third frame, though the depth was two when
-- the list began.
abbrev shows : List (List (List ℕ) × List (List ℕ))
shows =
    (pictures (saw old (shared 7)), (0x6f6f6f ∷ []) ∷ (0x4b4b4b ∷ []) ∷ (0x5a5a5a ∷ []) ∷ (0xbdbdbd ∷ []) ∷ [])
    ∷ (pictures (saw new (shared 8)), (0 ∷ []) ∷ (0x242424 ∷ []) ∷ (0x5a5a5a ∷ []) ∷ (0xbdbdbd ∷ []) ∷ [])
    ∷ (pictures (saw old (reset ∷ shared 7)), [] ∷ (0 ∷ []) ∷ (0x242424 ∷ []) ∷ (0x5a5a5a ∷ []) ∷ (0xbdbdbd ∷ []) ∷ [])
    ∷ (pictures (saw old (switch 4 false ∷ switch 4 true ∷ shared 7)), [] ∷ [] ∷ (0 ∷ []) ∷ (0x242424 ∷ []) ∷ (0x5a5a5a ∷ []) ∷ (0xbdbdbd ∷ []) ∷ [])
    ∷ (pictures (saw (run old (ask 4 false ∷ commit ∷ switch 4 true ∷ [])) (shared 7)), (0 ∷ []) ∷ (0x242424 ∷ []) ∷ (0x5a5a5a ∷ []) ∷ (0xbdbdbd ∷ []) ∷ [])
    ∷ (
      pictures (saw old-wide deepened),
      (0x6f6f6f ∷ []) ∷ [] ∷ (0x606060 ∷ []) ∷ (0x6d6d6d ∷ []) ∷ (0xb2b2b2 ∷ []) ∷ (0x555555 ∷ []) ∷ [],
    )
    ∷ (pictures (saw new-wide deepened), (0 ∷ []) ∷ [] ∷ (0x1f1f1f ∷ []) ∷ (0x4f4f4f ∷ []) ∷ (0xa7a7a7 ∷ []) ∷ (0x555555 ∷ []) ∷ [])
    ∷ []

-- two glows, of depths 1 and 2, with own buffers of three words: one has shown a white frame
abbrev glows : Station
glows = station_of (carded true (Persistence c0_5 1) ∷ carded true (Persistence c0_5 2) ∷ [])

abbrev three : ℕ → Call
three p = frame 1 1 (p ∷ 0 ∷ []) 3 6 1 []

abbrev glowing : List Call
glowing = three 0 ∷ three 0x404040 ∷ three 0x808080 ∷ three 0xffffff ∷ three 0 ∷ []

abbrev old_glow : State
old_glow = run (opened glows (90 ∷ 91 ∷ 92 ∷ [])) (three 0xffffff ∷ [])

abbrev new_glow : State
new_glow = opened glows (5 ∷ 6 ∷ 7 ∷ [])

-- Three frames differ, as many as both have places, and no fourth.
abbrev glow_shows : List (List (List ℕ) × List (List ℕ))
glow_shows =
    (pictures (saw old_glow glowing), (0x9f9f9f ∷ []) ∷ (0x575757 ∷ []) ∷ (0x545454 ∷ []) ∷ (0x9b9b9b ∷ []) ∷ (0x7c7c7c ∷ []) ∷ [])
    ∷ (pictures (saw new_glow glowing), (0 ∷ []) ∷ (0x171717 ∷ []) ∷ (0x474747 ∷ []) ∷ (0x9b9b9b ∷ []) ∷ (0x7c7c7c ∷ []) ∷ [])
    ∷ []

-- persistence 0.3 of depth 1, which clips a white frame over a white one, since its weights add up to more than 1
abbrev mixing : Station
mixing = station_of (carded true (Persistence c0_30 1) ∷ [])

abbrev white : Call
white = frame 1 1 (0xffffff ∷ []) 1 6 1 []

-- What the own list reports: acceptance with no channel clipped and no sample taken, refusal 10, and the presets. Before the point of agreement two stations may report different
-- numbers: the first shared frame is mixed by one, and fills the history of the other.
abbrev reports : List (List Report × List Report)
reports =
    (answers (saw (run (opened mixing (7 ∷ [])) (white ∷ [])) (white ∷ white ∷ [])), acceptance (3 ∷ 0 ∷ []) ∷ acceptance (3 ∷ 0 ∷ []) ∷ [])
    ∷ (answers (saw (opened mixing (7 ∷ [])) (white ∷ white ∷ [])), acceptance (0 ∷ 0 ∷ []) ∷ acceptance (3 ∷ 0 ∷ []) ∷ [])
    ∷ (answers (saw (opened station (90 ∷ 91 ∷ 92 ∷ [])) own), acceptance (0 ∷ 0 ∷ []) ∷ refusal 10 ∷ map (λ p. acceptance (p ∷ [])) (0 ∷ 1 ∷ 2 ∷ 3 ∷ 4 ∷ 5 ∷ 6 ∷ []))
    ∷ []

-- Of the shared list the point is the call after the second frame. A reset and a switching-off agree themselves, a committed one too; asking for it, a
-- switch to the present position, a switch of another pass and a refused frame do not count; a list may end before its point; once persistence is off, the
-- first call agrees. A change of depth that both accept starts the count anew, to the present depth too; one that both refuse does not; where the old
-- station refuses one, since it holds a frame, and the new one accepts it, no call agrees. Of two glows the point comes after as many frames as the depths of
-- those that are on come to; the first switched off does not bring it earlier, while the second is on; a reset does.
-- where the two agree on a list that is the same for both
abbrev begins : List Call → ℕ
begins cs = point old new cs cs

abbrev points : List (ℕ × ℕ)
points =
    (point old new (shared 7) (shared 8), 2)
    ∷ (point new old (shared 8) (shared 7), 2)
    ∷ (begins (one 0 1 ∷ reset ∷ one 0 2 ∷ []), 1)
    ∷ (begins (one 0 1 ∷ switch 4 false ∷ one 0 2 ∷ []), 1)
    ∷ (begins (one 0 1 ∷ ask 4 false ∷ commit ∷ one 0 2 ∷ []), 2)
    ∷ (begins (ask 4 false ∷ one 0 1 ∷ one 0 2 ∷ commit ∷ []), 3)
    ∷ (begins (ask 4 true ∷ commit ∷ one 0 1 ∷ one 0 2 ∷ one 0 3 ∷ []), 4)
    ∷ (begins (one 0 1 ∷ switch 4 true ∷ switch 5 true ∷ one 0 2 ∷ one 0 3 ∷ []), 4)
    ∷ (begins (one 0 1 ∷ short ∷ one 0 2 ∷ one 0 3 ∷ []), 3)
    ∷ (begins (one 0 1 ∷ short ∷ []), 2)
    ∷ (point (run old (switch 4 false ∷ [])) (run new (switch 4 false ∷ [])) (one 0 1 ∷ one 0 2 ∷ []) (one 0 1 ∷ one 0 2 ∷ []), 0)
    ∷ (begins (one 0 1 ∷ new_depth 2 2 ∷ one 0 2 ∷ one 0 3 ∷ one 0 4 ∷ []), 4)
    ∷ (begins (new_depth 1 1 ∷ one 0 1 ∷ one 0 2 ∷ []), 2)
    ∷ (begins (one 0 1 ∷ new_depth 9 2 ∷ new_depth 4 2 ∷ one 0 2 ∷ one 0 3 ∷ []), 4)
    ∷ (begins (new_depth 3 2 ∷ one 0 1 ∷ one 0 2 ∷ one 0 3 ∷ []), 4)
    ∷ (point old-wide new-wide deepened deepened, 6)
    ∷ (point old_glow new_glow glowing glowing, 3)
    ∷ (point old_glow new_glow (switch 4 false ∷ glowing) (switch 4 false ∷ glowing), 4)
    ∷ (point (run old_glow (switch 4 false ∷ [])) (run new_glow (switch 4 false ∷ [])) glowing glowing, 2)
    ∷ (point old_glow new_glow (three 0 ∷ reset ∷ []) (three 0 ∷ reset ∷ []), 1)
    ∷ (point old_glow new_glow (three 0 ∷ new_depth 1 3 ∷ glowing) (three 0 ∷ new_depth 1 3 ∷ glowing), 5)
    ∷ []

pub runs_hold : Hold shows × Hold glow_shows × Hold reports × Hold points
unfolding point before saw run after call frame_reply_by depth_reply depth_stops of_first redepth unless shown_by stops lacks ask_stops commit_stops good_station fine_held same_held
    bad_side settled normal_pass normal_chain persists held_by holding depth depth_on reads_curve record_samples fold chain_by turn_by over_by wash on_first presets of_bits of_int add mul div
    lt clamp_of cut_of rewrite Text.Pixel.unpack Text.Pixel.pack Text.Pixel.pack_clamped Text.Persistence.persistence
    Text.Persistence.decay Text.Persistence.total Text.Persistence.add Text.Persistence.mix converted sum
    Text.Pixel.clip Text.Pixel.clips Text.Persistence.blend Persistence.copies Persistence.refilled Persistence.shifted Persistence.resized
runs_hold = (refl, refl, refl, refl)

-- ## The theorem at these stations

same : (p : ℕ) → SameCall (one 7 p) (one 8 p)
same p = frames (record { same_length = refl; same_first = λ fits. refl }) (record { same_length = refl; same_first = λ fits. refl })

pub agree : drop 2 (saw old (shared 7)) ≡ drop 2 (saw new (shared 8))
unfolding point before saw run after call frame_reply_by unless shown_by stops lacks good_station fine_held same_held
    bad_side settled normal_pass normal_chain persists held_by holding depth depth_on reads_curve record_samples fold chain_by turn_by over_by wash on_first presets of_bits of_int add mul div
    lt clamp_of cut_of rewrite Text.Pixel.unpack Text.Pixel.pack Text.Pixel.pack_clamped Text.Persistence.persistence
    Text.Persistence.decay Text.Persistence.total Text.Persistence.add Text.Persistence.mix converted sum
    Text.Pixel.clip Text.Pixel.clips Text.Persistence.blend Persistence.copies Persistence.refilled Persistence.shifted
agree =
    (machines_agree card other station station opens opens_other refl (90 ∷ 91 ∷ 92 ∷ []) (5 ∷ 6 ∷ []) own [] (record { same_switches = refl; same_presets = refl; same_depths = refl; same_pending = refl })
    (shared 7) (shared 8) (more (same 0) (more (same 0x404040) (more (same 0x808080) (more (same 0xffffff) none))))
    (omega arith, (omega arith, (omega arith, (omega arith, tt))))
    (omega arith, (omega arith, (omega arith, (omega arith, tt))))
    ).1
