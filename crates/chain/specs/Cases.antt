-- The cases of the refusals of the calls, of what a frame reports, of frames with a curve, of turned frames, of switches that are asked for, of a new
-- depth, and of two glows. Each list pairs what a definition gives with what it should give, and one proof by computation holds the whole list. Assumes
-- nothing.
use Rattle.std.specs.Prelude.{ℕ, ◌+◌, ◌*◌, Bool, true, false, List, [], ◌∷◌, map, refl, Float}
use Rattle.std.specs.Float.{nan, binary32}
use Rattle.std.specs.Float.Ieee.{of_bits, of_int, add, sub, mul, div, lt, le, eq, ne, neg}
use Rattle.num.specs.Cases.{Hold}
use Rattle.num.specs.Const.{c0_0, c0_30, c0_5, c1_0, c2_0}
use Rattle.num.specs.Held.{Held, nothing, sized, same_held, fine_held}
use Rattle.num.specs.Refusals.{bad_side, unless}
use Rattle.num.specs.Rewrite.{rewrite}
use Rattle.num.specs.Steps.{clamp_of, cut_of}
use Rattle.num.specs.Sums.{sum}
use Rattle.passes.specs as Text
use Rattle.passes.specs.Cases.{times}
use Rattle.passes.specs.Fold.{fold}
use Rattle.passes.specs.Painted.{converted}
use Rattle.passes.specs.Plain.Persistence as Persistence
use Rattle.cards.specs.Alike.{chain_of}
use Rattle.cards.specs.Answers.{Report, refusal, acceptance}
use Rattle.cards.specs.Card.{station_of}
use Rattle.cards.specs.Normal.{settled, normal_pass, normal_chain, held_by, holding, good_station}
use Rattle.cards.specs.Records.{carded}
use Rattle.chain.specs.Calls.{float_room, rechain, pend, stops, lacks, ask_stops, commit_stops, of_first, on_first, shown_by, frame_reply, frame_reply_by}
use Rattle.chain.specs.Calls.{samples_stops, samples_report, depth_stops, redepth, depth_reply}
use Rattle.chain.specs.Agree.{opened}
use Rattle.passes.specs.Samples.{samples, ntsc_samples, bloom_samples}
use Rattle.chain.specs.Chain.{wash, over_by, turn_by, with_held, chain_by, depth, depths, reads_curve, record_samples, samples_in}
use Rattle.chain.specs.Machine.{Call, frame, reset, switch, ask, commit, step, new_depth, State, call, after, run, saw}
use Rattle.cards.specs.declared.station.Pass.TheVariants.{Ntsc, Bloom, Persistence, Lut, ColorCorrection, Scanlines}
use Rattle.cards.specs.declared.station.Pending.{Pending}
use Rattle.cards.specs.declared.station.Pending.TheVariants.{Nothing, Switch}
use Rattle.cards.specs.declared.station.Record.{Record}
use Rattle.cards.specs.declared.station.Station.{Station}

-- persistence of depth 8, on and off, and scanlines
abbrev kept : Bool → Station
kept on = station_of (carded on (Persistence c0_0 8) ∷ carded true (Scanlines c0_0) ∷ [])

-- whose first persistence holds frames of that size
abbrev remembering : Held → Station → Station
remembering held s = rechain (on_first 4 (with_held held) (chain_of s)) s

-- three persistence of depth 8 that hold frames of these sizes
abbrev glowing : (first second third : Held) → Station
glowing first second third =
    let glow : Record = carded true (Persistence c0_0 8) in
    station_of (with_held first glow ∷ with_held second glow ∷ with_held third glow ∷ [])

-- Frames: a doubled kind, kinds out of order, a size remembered while persistence is off, a remembered side of 1025, and one side of 0 beside another
-- (13), and sides of 1024 remembered; a side of 0 and of 1025 (8), and 1024 taken; a framebuffer of one word too few (9); a history
-- of one word too few, on and off (10); one f32 word too few, and one u32 word (11); nothing too few. The first that holds is given. With
-- three persistence: two remembered sizes that differ, at each place (13), one size remembered by two of them, and by all; the history has room for 24 frames,
-- whatever is remembered, or one word too few (10).
-- Other calls: on a bad station (13), on a kind that is not there, and that no pass has (12), and on one that is there; a station of which a switch of
-- a pass is asked that it has not, and of one that no chain has (13), and of one that it has.
abbrev pub stopped : List (ℕ × ℕ)
stopped =
    (stops (station_of (carded true (Scanlines c0_0) ∷ carded false (Scanlines c0_0) ∷ [])) 0 0 0 0 0 0 [], 13)
    ∷ (stops (station_of (carded true (Scanlines c0_0) ∷ carded true (Persistence c0_0 8) ∷ [])) 1 1 1 8 6 1 [], 13)
    ∷ (stops (remembering (sized 1 1) (kept false)) 0 0 0 0 0 0 [], 13)
    ∷ (stops (remembering (sized 1025 1) (kept true)) 1 1 1 8 6 1 [], 13)
    ∷ (stops (remembering (sized 1 1025) (kept true)) 1 1 1 8 6 1 [], 13)
    ∷ (stops (remembering (sized 0 1) (kept true)) 1 1 1 8 6 1 [], 13)
    ∷ (stops (remembering (sized 1 0) (kept true)) 1 1 1 8 6 1 [], 13)
    ∷ (stops (remembering (sized 1024 1024) (kept true)) 1 1 1 8 6 1 [], 0)
    ∷ (stops (kept true) 0 1 0 0 0 0 [], 8)
    ∷ (stops (kept true) 1 0 0 0 0 0 [], 8)
    ∷ (stops (kept true) 1025 1 1025 8200 6150 1025 [], 8)
    ∷ (stops (kept true) 1 1025 1025 8200 6150 1025 [], 8)
    ∷ (stops (kept true) 1024 1 1024 8192 6144 1024 [], 0)
    ∷ (stops (kept true) 3 2 5 0 0 0 [], 9)
    ∷ (stops (kept true) 3 2 6 47 0 0 [], 10)
    ∷ (stops (kept false) 3 2 6 47 0 0 [], 10)
    ∷ (stops (kept true) 3 2 6 48 26 6 [], 11)
    ∷ (stops (kept true) 3 2 6 48 27 5 [], 11)
    ∷ (stops (kept true) 3 2 6 48 27 6 [], 0)
    ∷ (stops (glowing (sized 1 1) (sized 1 2) nothing) 1 1 1 24 6 1 [], 13)
    ∷ (stops (glowing (sized 1 1) nothing (sized 2 1)) 1 1 1 24 6 1 [], 13)
    ∷ (stops (glowing nothing (sized 1 1) (sized 2 1)) 1 1 1 24 6 1 [], 13)
    ∷ (stops (glowing nothing (sized 2 1) (sized 2 1)) 1 1 1 24 6 1 [], 0)
    ∷ (stops (glowing (sized 2 1) (sized 2 1) (sized 2 1)) 1 1 1 24 6 1 [], 0)
    ∷ (stops (glowing nothing nothing nothing) 1 1 1 23 6 1 [], 10)
    ∷ (lacks (remembering (sized 1 1) (kept false)) 4, 13)
    ∷ (lacks (kept false) 5, 12)
    ∷ (lacks (kept false) 11, 12)
    ∷ (lacks (kept false) 4, 0)
    ∷ (lacks (pend (Switch 5 true) (kept true)) 4, 13)
    ∷ (lacks (pend (Switch 0 false) (kept true)) 4, 13)
    ∷ (lacks (pend (Switch 10 false) (kept true)) 4, 0)
    ∷ []

pub stopped_hold : Hold stopped
unfolding stops lacks on_first bad_side good_station fine_held same_held normal_chain normal_pass settled held_by holding depth reads_curve of_bits lt
stopped_hold = refl

-- How many f32 words of scratch a frame asks for (request P6): six for a frame of one word; at height 1 six for each word; at 256 by 240 half of
-- that and a row's; at most 3,148,800.
abbrev pub rooms : List (ℕ × ℕ)
rooms =
    (float_room 1 1, 6) ∷ (float_room 1024 1, 6 * 1024) ∷ (float_room 1 1024, 3 * 1024 + 3) ∷ (float_room 256 240, 185088)
    ∷ (float_room 1024 1024, 3148800)
    ∷ []

pub rooms_hold : Hold rooms
rooms_hold = refl

-- What a frame of two words and one row reports: the channels that the passes that are on clipped (request P5); none of these blurs.
-- LUT, high contrast, clips the three channels of black and those of white; colour, brightness 1, then clips those of white and none of
-- black, which comes to lie exactly at the end; each alone the same. Persistence at 0.3 clips all six where its history is white, and
-- none when it refills it. A refusal reports its number alone.
abbrev report_of : List Record → (held : Held) → (words past : List ℕ) → Report
report_of rs held words past = (frame_reply 2 1 (remembering held (station_of rs)) words past 12 2 []).answer

abbrev ends : List ℕ
ends = 0 ∷ 0xffffff ∷ []

abbrev white : List ℕ
white = 0xffffff ∷ 0xffffff ∷ []

abbrev toned : (lut colour : Bool) → List Record
toned lut colour = carded lut (Lut 6 c1_0) ∷ carded colour (ColorCorrection c1_0 c1_0 c1_0 c1_0) ∷ []

abbrev mixing : List Record
mixing = carded true (Persistence c0_30 1) ∷ carded true (Scanlines c1_0) ∷ []

abbrev pub reports : List (Report × Report)
reports =
    (report_of [] nothing ends [], acceptance (0 ∷ 0 ∷ []))
    ∷ (report_of (toned true true) nothing ends [], acceptance (9 ∷ 0 ∷ []))
    ∷ (report_of (toned true false) nothing ends [], acceptance (6 ∷ 0 ∷ []))
    ∷ (report_of (toned false true) nothing ends [], acceptance (3 ∷ 0 ∷ []))
    ∷ (report_of (toned false false) nothing ends [], acceptance (0 ∷ 0 ∷ []))
    ∷ (report_of mixing (sized 2 1) white white, acceptance (6 ∷ 0 ∷ []))
    ∷ (report_of mixing (sized 1 2) white white, acceptance (0 ∷ 0 ∷ []))
    ∷ (report_of mixing (sized 2 1) white (0xffffff ∷ []), refusal 10)
    ∷ []

pub reports_hold : Hold reports
unfolding frame_reply_by unless shown_by on_first stops bad_side good_station fine_held same_held normal_chain normal_pass settled held_by holding
    depth reads_curve record_samples fold chain_by turn_by over_by wash of_bits of_int add sub mul div neg lt clamp_of cut_of rewrite sum converted
    Text.Pixel.unpack Text.Pixel.unit Text.Pixel.pack Text.Pixel.pack_clamped Text.Pixel.pack_unit Text.Pixel.clip Text.Pixel.clips Text.Pixel.dim
    Text.Pixel.luma709 Text.ColorCorrection.color_correction Text.ColorCorrection.curved Text.ColorCorrection.start Text.ColorCorrection.colour eq ne
    Text.Lut.lut Text.Lut.colour Text.Lut.transform Text.Scanlines.scanlines Text.Scanlines.in_row Text.Persistence.persistence Text.Persistence.decay
    Text.Persistence.total Text.Persistence.add Text.Persistence.mix Text.Persistence.blend Persistence.copies Persistence.refilled
    Persistence.shifted
reports_hold = refl

-- The samples that a chain's blurs take (request P9). Two words in one row: each is inside for both, at radius 1 and above; a column of one has one.
-- The largest total, by both blurs at 64.
abbrev blurring : (ntsc bloom : Bool) → ℕ → List Record
blurring ntsc bloom r = carded ntsc (Ntsc c1_0 r) ∷ carded bloom (Bloom 0 c1_0 r) ∷ []

abbrev pub taken : List (ℕ × ℕ)
taken =
    (samples_in 2 1 (blurring true true 1), 4 + (4 + 2))
    ∷ (samples_in 2 1 (blurring true false 1), 4)
    ∷ (samples_in 2 1 (blurring false true 64), 6)
    ∷ (samples_in 2 1 (blurring false false 1), 0)
    ∷ (samples_in 256 240 (blurring true true 4), 1644160)
    ∷ (samples_in 1024 1024 (blurring true true 64), 393019392)
    ∷ []

pub taken_hold : Hold taken
unfolding fold record_samples samples ntsc_samples bloom_samples
taken_hold = refl

-- The question how many a frame takes: of that chain at 256 by 240, and of none; sides of 0 and of 1025 (8); a bad station, whatever the sides are (13).
abbrev pub questions : List (Report × Report)
questions =
    (samples_report 256 240 (station_of (blurring true true 4)), acceptance (1644160 ∷ []))
    ∷ (samples_report 1024 1024 (station_of []), acceptance (0 ∷ []))
    ∷ (samples_report 0 1 (station_of []), refusal 8)
    ∷ (samples_report 1 1025 (station_of []), refusal 8)
    ∷ (samples_report 0 1025 (remembering (sized 1 1) (kept false)), refusal 13)
    ∷ []

pub questions_hold : Hold questions
unfolding samples_stops on_first unless bad_side good_station fine_held same_held normal_chain normal_pass settled held_by holding of_bits lt fold
    record_samples samples ntsc_samples bloom_samples
questions_hold = refl

-- Frames with a curve (request P3): of one word, with all that is lent but the curve. Gamma 1.0 needs none, whatever is lent. At gamma 2, on or off, 255
-- words are too few, and one step above 1 is bad (16), but not past the 256 words that are read. Scratch is asked for first (11).
abbrev tinted : Bool → Float → Station
tinted on gamma = station_of (carded on (ColorCorrection c0_0 c1_0 c1_0 gamma) ∷ [])

abbrev above : Float
above = of_bits binary32 0x3f80_0001

abbrev curve_stops : Bool → Float → List Float → ℕ
curve_stops on gamma curve = stops (tinted on gamma) 1 1 1 0 6 1 curve

abbrev pub curved : List (ℕ × ℕ)
curved =
    (curve_stops true c1_0 [], 0)
    ∷ (curve_stops true c1_0 (nan ∷ []), 0)
    ∷ (curve_stops true c2_0 (times 255 c0_0 []), 16)
    ∷ (curve_stops false c2_0 (times 255 c0_0 []), 16)
    ∷ (curve_stops true c2_0 (times 256 c0_0 []), 0)
    ∷ (curve_stops true c2_0 (times 255 c0_0 (above ∷ [])), 16)
    ∷ (curve_stops false c2_0 (times 255 c0_0 (above ∷ [])), 16)
    ∷ (curve_stops true c2_0 (times 256 c0_0 (above ∷ [])), 0)
    ∷ (stops (tinted true c2_0) 1 1 1 0 6 0 [], 11)
    ∷ []

pub curved_hold : Hold curved
unfolding times stops bad_side good_station fine_held same_held normal_chain normal_pass settled held_by holding depth reads_curve Text.ColorCorrection.curved
    Text.ColorCorrection.good_curve Text.ColorCorrection.all_in_unit Text.ColorCorrection.in_unit of_bits lt le eq ne neg
curved_hold = refl

-- a white pixel under a curve of zeros, colour on and off; the framebuffer's second word is past the frame
abbrev pub tints : List (List ℕ × List ℕ)
tints =
    ((frame_reply 1 1 (tinted true c2_0) white [] 6 1 (times 256 c0_0 [])).words, 0 ∷ 0xffffff ∷ [])
    ∷ ((frame_reply 1 1 (tinted false c2_0) white [] 6 1 (times 256 c0_0 [])).words, white)
    ∷ []

pub tints_hold : Hold tints
unfolding times frame_reply_by unless shown_by stops bad_side good_station fine_held same_held normal_chain normal_pass settled held_by holding depth
    reads_curve Text.ColorCorrection.good_curve Text.ColorCorrection.all_in_unit Text.ColorCorrection.in_unit fold chain_by turn_by over_by wash
    of_bits of_int add sub mul div neg lt le eq ne clamp_of cut_of rewrite sum converted Text.Pixel.pack Text.Pixel.pack_unit Text.Pixel.clip
    Text.Pixel.clips Text.Pixel.luma709 Text.ColorCorrection.color_correction Text.ColorCorrection.curved Text.ColorCorrection.start
    Text.ColorCorrection.colour
tints_hold = refl

-- Turned frames (request P1). Persistence 0.5 of depth 1, frames of two words, upright (1 by 2) and turned (2 by 1). A black frame shows
-- the white one before it as 555555; turned, it is shown unaltered. A turn and back: each begins anew. Two stations, one of which was
-- turned before, agree from the second shared frame on, since the depth is 1.
abbrev half : State
half = opened (station_of (carded true (Persistence c0_5 1) ∷ [])) (7 ∷ 8 ∷ [])

abbrev upright : List ℕ → Call
upright words = frame 1 2 words 2 12 2 []

abbrev turned : List ℕ → Call
turned words = frame 2 1 words 2 12 2 []

abbrev black : List ℕ
black = 0 ∷ 0 ∷ []

abbrev pictures : State → List Call → List (List ℕ)
pictures s cs = map (λ g. g.picture) (saw s cs)

abbrev pub turns : List (List (List ℕ) × List (List ℕ))
turns =
    (pictures half (upright white ∷ upright black ∷ []), white ∷ (0x555555 ∷ 0x555555 ∷ []) ∷ [])
    ∷ (pictures half (upright white ∷ turned black ∷ []), white ∷ black ∷ [])
    ∷ (pictures half (upright white ∷ turned black ∷ upright white ∷ []), white ∷ black ∷ white ∷ [])
    ∷ (pictures (run half (turned white ∷ [])) (upright white ∷ upright black ∷ []), white ∷ (0x555555 ∷ 0x555555 ∷ []) ∷ [])
    ∷ (pictures (run half (upright black ∷ [])) (upright white ∷ upright black ∷ []), (0xaaaaaa ∷ 0xaaaaaa ∷ []) ∷ (0x555555 ∷ 0x555555 ∷ []) ∷ [])
    ∷ []

pub turns_hold : Hold turns
unfolding run saw after call frame_reply_by unless shown_by stops bad_side good_station fine_held same_held normal_chain normal_pass settled held_by
    holding depth reads_curve fold chain_by turn_by over_by of_bits of_int add sub mul div neg lt clamp_of cut_of rewrite sum converted
    Text.Pixel.unpack Text.Pixel.pack Text.Pixel.pack_clamped Text.Pixel.clip Text.Pixel.clips Text.Persistence.persistence Text.Persistence.decay
    Text.Persistence.total Text.Persistence.add Text.Persistence.mix Text.Persistence.blend Persistence.copies Persistence.refilled
    Persistence.shifted
turns_hold = refl

-- Switches that are asked for (request P7). Asking, asking again (17), committing, committing again (18), on a station with persistence alone; a kind that is
-- not there (12), also where a switch is asked for; all on a station of which a switch of an absent pass is asked (13).
abbrev answers : State → List Call → List Report
answers s cs = map (λ g. g.answer) (saw s cs)

abbrev done : Report
done = acceptance []

-- of which a switch of LUT is asked, which it has not
abbrev absent : State
absent = opened (pend (Switch 5 true) half.station) []

abbrev pub asks : List (List Report × List Report)
asks =
    (answers half (ask 4 false ∷ ask 4 true ∷ commit ∷ commit ∷ ask 4 true ∷ []), done ∷ refusal 17 ∷ done ∷ refusal 18 ∷ done ∷ [])
    ∷ (answers half (ask 5 true ∷ ask 4 true ∷ ask 5 true ∷ commit ∷ []), refusal 12 ∷ done ∷ refusal 12 ∷ done ∷ [])
    ∷ (answers absent (ask 5 true ∷ ask 4 true ∷ commit ∷ reset ∷ []), refusal 13 ∷ refusal 13 ∷ refusal 13 ∷ refusal 13 ∷ [])
    ∷ []

pub asks_hold : Hold asks
unfolding run saw after call ask_stops commit_stops lacks on_first unless good_station fine_held same_held normal_chain normal_pass settled held_by
    holding of_bits lt
asks_hold = refl

-- What is asked for after that: asking records it, the present position too; a reset, a plain switch, a frame and refused calls leave it; committing clears it.
abbrev pending : List Call → Pending
pending cs = (run half cs).station.pending

abbrev pub waiting : List (Pending × Pending)
waiting =
    (pending [], Nothing)
    ∷ (pending (ask 4 true ∷ []), Switch 4 true)
    ∷ (pending (ask 4 false ∷ ask 4 true ∷ reset ∷ switch 4 false ∷ switch 4 true ∷ upright white ∷ step ∷ ask 5 true ∷ []), Switch 4 false)
    ∷ (pending (ask 4 false ∷ commit ∷ []), Nothing)
    ∷ []

pub waiting_hold : Hold waiting
unfolding run after call ask_stops commit_stops lacks on_first frame_reply_by unless shown_by stops bad_side good_station fine_held same_held
    normal_chain normal_pass settled held_by holding depth reads_curve fold chain_by turn_by over_by of_bits of_int add sub mul div neg lt clamp_of
    cut_of rewrite sum converted Text.Pixel.unpack Text.Pixel.pack Text.Pixel.pack_clamped Text.Pixel.clip Text.Pixel.clips
    Text.Persistence.persistence Text.Persistence.decay Text.Persistence.total Text.Persistence.add Text.Persistence.mix Text.Persistence.blend
    Persistence.copies Persistence.refilled Persistence.shifted
waiting_hold = refl

-- Persistence asked to be off: the ghost is still shown in two frames; committed, the next frame is unaltered. A plain switch to off and on between asking and
-- committing leaves the record: the committed switch turns off again what was turned on.
abbrev pub until_committed : List (List (List ℕ) × List (List ℕ))
until_committed = (
  pictures half (upright white ∷ ask 4 false ∷ upright black ∷ upright white ∷ commit ∷ upright black ∷ []),
  white ∷ [] ∷ (0x555555 ∷ 0x555555 ∷ []) ∷ (0xaaaaaa ∷ 0xaaaaaa ∷ []) ∷ [] ∷ black ∷ [],
)
    ∷ (
      pictures half (ask 4 false ∷ switch 4 false ∷ switch 4 true ∷ upright white ∷ commit ∷ upright black ∷ switch 4 true ∷ upright black ∷ []),
      [] ∷ [] ∷ [] ∷ white ∷ [] ∷ black ∷ [] ∷ black ∷ [],
    )
    ∷ []

pub until_committed_hold : Hold until_committed
unfolding run saw after call ask_stops commit_stops lacks on_first frame_reply_by unless shown_by stops bad_side good_station fine_held same_held
    normal_chain normal_pass settled held_by holding depth reads_curve fold chain_by turn_by over_by of_bits of_int add sub mul div neg lt clamp_of
    cut_of rewrite sum converted Text.Pixel.unpack Text.Pixel.pack Text.Pixel.pack_clamped Text.Pixel.clip Text.Pixel.clips
    Text.Persistence.persistence Text.Persistence.decay Text.Persistence.total Text.Persistence.add Text.Persistence.mix Text.Persistence.blend
    Persistence.copies Persistence.refilled Persistence.shifted
until_committed_hold = refl

-- A new depth (request P11). Persistence 0.5 of depth 3, frames of one word, an own buffer of five words. After three frames, depth 2 leaves all words; depth 4
-- then repeats the oldest of two, 000000, and the word past the four places stays; the next frame is mixed with these four. Depth 0 is 1. A history that holds
-- nothing is not touched.
abbrev three : State
three = opened (station_of (carded true (Persistence c0_5 3) ∷ [])) (1 ∷ 2 ∷ 3 ∷ 4 ∷ 5 ∷ [])

abbrev word : ℕ → Call
word p = frame 1 1 (p ∷ []) 4 6 1 []

abbrev three_frames : State
three_frames = run three (word 0xffffff ∷ word 0 ∷ word 0x404040 ∷ [])

abbrev pub renewed : List (List ℕ × List ℕ)
renewed =
    (three_frames.history, 0x404040 ∷ 0 ∷ 0xffffff ∷ 4 ∷ 5 ∷ [])
    ∷ ((run three_frames (new_depth 2 5 ∷ [])).history, 0x404040 ∷ 0 ∷ 0xffffff ∷ 4 ∷ 5 ∷ [])
    ∷ ((run three_frames (new_depth 2 5 ∷ new_depth 4 5 ∷ [])).history, 0x404040 ∷ 0 ∷ 0 ∷ 0 ∷ 5 ∷ [])
    ∷ (depths (chain_of (run three_frames (new_depth 2 5 ∷ new_depth 4 5 ∷ [])).station), 4 ∷ [])
    ∷ ((after (word 0xffffff) (run three_frames (new_depth 2 5 ∷ new_depth 4 5 ∷ []))).history, 0xffffff ∷ 0x404040 ∷ 0 ∷ 0 ∷ 5 ∷ [])
    ∷ ((run three_frames (new_depth 0 5 ∷ new_depth 3 5 ∷ [])).history, 0x404040 ∷ 0x404040 ∷ 0x404040 ∷ 4 ∷ 5 ∷ [])
    ∷ (depths (chain_of (run three_frames (new_depth 0 1 ∷ [])).station), 1 ∷ [])
    ∷ ((run three (new_depth 8 5 ∷ [])).history, 1 ∷ 2 ∷ 3 ∷ 4 ∷ 5 ∷ [])
    ∷ (depths (chain_of (run three (new_depth 8 0 ∷ [])).station), 8 ∷ [])
    ∷ []

pub renewed_hold : Hold renewed
unfolding run after call depth_reply depth_stops lacks of_first on_first redepth frame_reply_by unless shown_by stops bad_side good_station fine_held
    same_held normal_chain normal_pass settled held_by holding depth reads_curve fold chain_by turn_by over_by of_bits of_int add sub mul div neg lt
    clamp_of cut_of rewrite sum converted Text.Pixel.unpack Text.Pixel.pack Text.Pixel.pack_clamped Text.Pixel.clip Text.Pixel.clips
    Text.Persistence.persistence Text.Persistence.decay Text.Persistence.total Text.Persistence.add Text.Persistence.mix Text.Persistence.blend
    Persistence.copies Persistence.refilled Persistence.shifted Persistence.resized
renewed_hold = refl

-- the next picture
abbrev pub renewed_pictures : List (List (List ℕ) × List (List ℕ))
renewed_pictures =
    (pictures three_frames (new_depth 2 5 ∷ new_depth 4 5 ∷ word 0xffffff ∷ []), [] ∷ [] ∷ (0x8e8e8e ∷ []) ∷ [])
    ∷ []

pub renewed_pictures_hold : Hold renewed_pictures
unfolding run saw after call depth_reply depth_stops lacks of_first on_first redepth frame_reply_by unless shown_by stops bad_side good_station
    fine_held same_held normal_chain normal_pass settled held_by holding depth reads_curve fold chain_by turn_by over_by of_bits of_int add sub mul
    div neg lt clamp_of cut_of rewrite sum converted Text.Pixel.unpack Text.Pixel.pack Text.Pixel.pack_clamped Text.Pixel.clip Text.Pixel.clips
    Text.Persistence.persistence Text.Persistence.decay Text.Persistence.total Text.Persistence.add Text.Persistence.mix Text.Persistence.blend
    Persistence.copies Persistence.refilled Persistence.shifted Persistence.resized
renewed_pictures_hold = refl

-- What it answers: 9 is above 8 (6), also where no word is lent; of one held word, four words are enough for depth 4 and three are not (10), and for depth 0
-- none is too few; where nothing is held, and where persistence is off, no word is asked for; without persistence 12, whatever the depth; a bad station 13.
abbrev pub deeper : List (List Report × List Report)
deeper =
    (answers three_frames (new_depth 9 0 ∷ new_depth 255 5 ∷ new_depth 8 0 ∷ []), refusal 6 ∷ refusal 6 ∷ refusal 10 ∷ [])
    ∷ (answers three_frames (new_depth 4 3 ∷ new_depth 4 4 ∷ new_depth 4 3 ∷ []), refusal 10 ∷ done ∷ refusal 10 ∷ [])
    ∷ (answers three_frames (new_depth 0 0 ∷ new_depth 0 1 ∷ []), refusal 10 ∷ done ∷ [])
    ∷ (answers three (new_depth 8 0 ∷ new_depth 9 0 ∷ new_depth 3 0 ∷ []), done ∷ refusal 6 ∷ done ∷ [])
    ∷ (answers three_frames (switch 4 false ∷ new_depth 8 0 ∷ switch 4 true ∷ new_depth 1 0 ∷ []), done ∷ done ∷ done ∷ done ∷ [])
    ∷ (answers (opened (station_of []) []) (new_depth 9 0 ∷ new_depth 1 0 ∷ []), refusal 12 ∷ refusal 12 ∷ [])
    ∷ (answers absent (new_depth 9 0 ∷ []), refusal 13 ∷ [])
    ∷ []

pub deeper_hold : Hold deeper
unfolding run saw after call depth_reply depth_stops lacks of_first on_first redepth frame_reply_by unless shown_by stops bad_side good_station
    fine_held same_held normal_chain normal_pass settled held_by holding depth reads_curve fold chain_by turn_by over_by of_bits of_int add sub mul
    div neg lt clamp_of cut_of rewrite sum converted Text.Pixel.unpack Text.Pixel.pack Text.Pixel.pack_clamped Text.Pixel.clip Text.Pixel.clips
    Text.Persistence.persistence Text.Persistence.decay Text.Persistence.total Text.Persistence.add Text.Persistence.mix Text.Persistence.blend
    Persistence.copies Persistence.refilled Persistence.shifted Persistence.resized
deeper_hold = refl

-- Two glows (request P12). Persistence 0.5 of depth 1 and after it of depth 2, frames of one word, an own buffer of five words: the first history is its first
-- word, the second the two after it, and the words past these stay. The first switched off while the second goes on, and on again; a reset, which both
-- forget by; a new depth, by which the second begins elsewhere and forgets, and the present depth, by which it does not.
abbrev glows : State
glows = opened (station_of (carded true (Persistence c0_5 1) ∷ carded true (Persistence c0_5 2) ∷ [])) (1 ∷ 2 ∷ 3 ∷ 4 ∷ 5 ∷ [])

abbrev glowed : List Call → List (List ℕ) × List ℕ
glowed cs = (pictures glows cs, (run glows cs).history)

abbrev pub glowing_runs : List ((List (List ℕ) × List ℕ) × (List (List ℕ) × List ℕ))
glowing_runs = (
  glowed (word 0xffffff ∷ word 0 ∷ word 0x404040 ∷ word 0 ∷ []),
  ((0xffffff ∷ []) ∷ (0x9f9f9f ∷ []) ∷ (0x575757 ∷ []) ∷ (0x242424 ∷ []) ∷ [], 0 ∷ 0x151515 ∷ 0x2a2a2a ∷ 4 ∷ 5 ∷ []),
)
    ∷ (
      glowed (word 0xffffff ∷ switch 4 false ∷ word 0 ∷ word 0x404040 ∷ switch 4 true ∷ word 0 ∷ []),
      ((0xffffff ∷ []) ∷ [] ∷ (0x6f6f6f ∷ []) ∷ (0x4b4b4b ∷ []) ∷ [] ∷ (0x121212 ∷ []) ∷ [], 0 ∷ 0 ∷ 0x404040 ∷ 4 ∷ 5 ∷ []),
    )
    ∷ (
      glowed (word 0xffffff ∷ word 0 ∷ reset ∷ word 0x404040 ∷ word 0 ∷ []),
      ((0xffffff ∷ []) ∷ (0x9f9f9f ∷ []) ∷ [] ∷ (0x404040 ∷ []) ∷ (0x272727 ∷ []) ∷ [], 0 ∷ 0x151515 ∷ 0x404040 ∷ 4 ∷ 5 ∷ []),
    )
    ∷ (
      glowed (word 0xffffff ∷ word 0x404040 ∷ new_depth 2 4 ∷ word 0 ∷ []),
      ((0xffffff ∷ []) ∷ (0xb6b6b6 ∷ []) ∷ [] ∷ (0x1b1b1b ∷ []) ∷ [], 0 ∷ 0x404040 ∷ 0x1b1b1b ∷ 0x1b1b1b ∷ 5 ∷ []),
    )
    ∷ (
      glowed (word 0xffffff ∷ word 0x404040 ∷ new_depth 1 4 ∷ word 0 ∷ []),
      ((0xffffff ∷ []) ∷ (0xb6b6b6 ∷ []) ∷ [] ∷ (0x575757 ∷ []) ∷ [], 0 ∷ 0x151515 ∷ 0x7f7f7f ∷ 4 ∷ 5 ∷ []),
    )
    ∷ []

pub glowing_runs_hold : Hold glowing_runs
unfolding run saw after call depth_reply depth_stops lacks of_first on_first redepth frame_reply_by unless shown_by stops bad_side good_station
    fine_held same_held normal_chain normal_pass settled held_by holding depth reads_curve fold chain_by turn_by over_by of_bits of_int add sub mul
    div neg lt clamp_of cut_of rewrite sum converted Text.Pixel.unpack Text.Pixel.pack Text.Pixel.pack_clamped Text.Pixel.clip Text.Pixel.clips
    Text.Persistence.persistence Text.Persistence.decay Text.Persistence.total Text.Persistence.add Text.Persistence.mix Text.Persistence.blend
    Persistence.copies Persistence.refilled Persistence.shifted Persistence.resized
glowing_runs_hold = refl
