-- The calls on a station: what each refuses, what it answers, and what it leaves. Assumes nothing.
use Rattle.std.specs.Prelude.{ℕ, ◌+◌, ◌*◌, Bool, true, false, not, ◌&&◌, ◌||◌, cond, List, [], ◌∷◌, ◌++◌, map, eqb, ltb, Float, length, take, drop}
use Rattle.num.specs.Held.{Held, nothing, area}
use Rattle.num.specs.Refusals.{bad_side, unless}
use Rattle.passes.specs.Arith.{Arith, plain}
use Rattle.passes.specs.ColorCorrection.{good_curve}
use Rattle.passes.specs.Painted.{painted}
use Rattle.passes.specs.Persistence.{resized}
use Rattle.cards.specs.Alike.{chain_of}
use Rattle.cards.specs.Answers.{Report, refusal, acceptance, Reply, reply, refusing}
use Rattle.chain.specs.Chain.{Ran, with_held, chain_by, depth_of, depth, reads_curve, samples_in}
use Rattle.cards.specs.Normal.{good_station}
use Rattle.cards.specs.Passes.{kind_of}
use Rattle.cards.specs.Records.{kinds, among}
use Rattle.cards.specs.Settings.{one_at_least}
use Rattle.cards.specs.declared.station.Pass.{Pass}
use Rattle.cards.specs.declared.station.Pass.TheVariants.{Ntsc, Bloom, AutoGradient, Persistence, Lut, Curvature, ColorCorrection, Crt, Vignette, Scanlines}
use Rattle.cards.specs.declared.station.Pending.{Pending}
use Rattle.cards.specs.declared.station.Pending.TheVariants.{Nothing, Switch}
use Rattle.cards.specs.declared.station.Record.{Record}
use Rattle.cards.specs.declared.station.Station.{Station}

-- ## A station that is changed

-- in the records of its chain; those past n stay
abbrev pub rechain : List Record → Station → Station
rechain rs s = record { records = rs ++ drop s.n s.records; n = s.n; pending = s.pending }

-- in what is asked of it
abbrev pub pend : Pending → Station → Station
pend pending s = record { records = s.records; n = s.n; pending = pending }

-- ## Refusals: a number of the papers' tables, 0 for none

-- the f32 words of scratch that a frame asks for: three for each of its words, and three for each of a row's
abbrev pub float_room : (w h : ℕ) → ℕ
float_room w h = 3 * (h * w) + 3 * w

-- of a frame, by the curve and the lengths of all else that is lent
unfoldable pub stops : Station → (w h words history floats ints : ℕ) → (curve : List Float) → ℕ
stops s w h words history floats ints curve =
    cond (not (good_station s)) 13
    (cond (bad_side w || bad_side h) 8
    (cond (ltb words (h * w)) 9
    (cond (ltb history (depth (chain_of s) * (h * w))) 10
    (cond (ltb floats (float_room w h) || ltb ints (h * w)) 11
    (cond (reads_curve (chain_of s) && not (good_curve curve)) 16 0)))))

-- of a call on the pass of that kind
unfoldable pub lacks : Station → ℕ → ℕ
lacks s kind = cond (not (good_station s)) 13 (cond (among kind (kinds (chain_of s))) 0 12)

-- whether a switch is asked for
abbrev pub waits : Pending → Bool
waits Nothing = false
waits (Switch kind on) = true

-- of asking for a switch of the pass of that kind
unfoldable pub ask_stops : Station → ℕ → ℕ
ask_stops s kind = unless (lacks s kind) (λ k. k) (cond (waits s.pending) 17 0)

-- of committing it
unfoldable pub commit_stops : Station → ℕ
commit_stops s = cond (not (good_station s)) 13 (cond (waits s.pending) 0 18)

-- what f tells of the first record of that kind, d where there is none
unfoldable pub of_first : {X : Type 0} → ℕ → X → (Record → X) → List Record → X
of_first kind d f [] = d
of_first kind d f (r ∷ rs) = cond (eqb (kind_of r.pass) kind) (f r) (of_first kind d f rs)

-- of the first persistence, what it holds, and its depth
abbrev pub first_held : List Record → Held
first_held = of_first 4 nothing (λ r. r.held)

abbrev pub first_depth : List Record → ℕ
first_depth = of_first 4 0 (λ r. depth_of r.pass)

-- of a new depth, by the length of the history that is lent: where the first persistence holds nothing no word of it is asked for
unfoldable pub depth_stops : Station → (d history : ℕ) → ℕ
depth_stops s d history = unless (lacks s 4) (λ k. k) (cond (ltb 8 d) 6 (cond (ltb history (one_at_least d * area (first_held (chain_of s)))) 10 0))

-- ## Reset, switch, asking and committing, preset step

-- the first record of that kind, changed by f
unfoldable pub on_first : ℕ → (Record → Record) → List Record → List Record
on_first kind f [] = []
on_first kind f (r ∷ rs) = cond (eqb (kind_of r.pass) kind) (f r ∷ rs) (r ∷ on_first kind f rs)

-- no record holds anything
abbrev pub forget : List Record → List Record
forget = map (with_held nothing)

abbrev pub reset_reply : Station → Reply
reset_reply s = unless (lacks s 4) (refusing s) (reply (acceptance []) (rechain (forget (chain_of s)) s))

-- one that is off holds nothing
abbrev pub with_switch : Bool → Record → Record
with_switch on r = record { on = on; pass = r.pass; held = cond on r.held nothing }

abbrev pub switched : ℕ → Bool → Station → Station
switched kind on s = rechain (on_first kind (with_switch on) (chain_of s)) s

abbrev pub switch_reply : ℕ → Bool → Station → Reply
switch_reply kind on s = unless (lacks s kind) (refusing s) (reply (acceptance []) (switched kind on s))

-- asking records a switch and changes nothing else: the present position, too
abbrev pub ask_reply : ℕ → Bool → Station → Reply
ask_reply kind on s = unless (ask_stops s kind) (refusing s) (reply (acceptance []) (pend (Switch kind on) s))

-- what is asked for, made as any switch is; then nothing is asked for
abbrev pub committed : Pending → Station → Station
committed Nothing s = s
committed (Switch kind on) s = pend Nothing (switched kind on s)

abbrev pub commit_reply : Station → Reply
commit_reply s = unless (commit_stops s) (refusing s) (reply (acceptance []) (committed s.pending s))

-- from 0 to 6, and back to 0
abbrev pub next : ℕ → ℕ
next preset = cond (ltb preset 6) (preset + 1) 0

abbrev pub stepped_pass : Pass → Pass
stepped_pass (Ntsc strength bleed) = Ntsc strength bleed
stepped_pass (Bloom threshold strength radius) = Bloom threshold strength radius
stepped_pass (AutoGradient strength vertical horizontal) = AutoGradient strength vertical horizontal
stepped_pass (Persistence amount depth) = Persistence amount depth
stepped_pass (Lut preset strength) = Lut (next preset) strength
stepped_pass (Curvature amount) = Curvature amount
stepped_pass (ColorCorrection brightness contrast saturation gamma) = ColorCorrection brightness contrast saturation gamma
stepped_pass (Crt strength) = Crt strength
stepped_pass (Vignette strength) = Vignette strength
stepped_pass (Scanlines strength) = Scanlines strength

abbrev pub stepped : Record → Record
stepped r = record { on = r.on; pass = stepped_pass r.pass; held = r.held }

abbrev pub preset_of : Pass → List ℕ
preset_of (Ntsc strength bleed) = []
preset_of (Bloom threshold strength radius) = []
preset_of (AutoGradient strength vertical horizontal) = []
preset_of (Persistence amount depth) = []
preset_of (Lut preset strength) = preset ∷ []
preset_of (Curvature amount) = []
preset_of (ColorCorrection brightness contrast saturation gamma) = []
preset_of (Crt strength) = []
preset_of (Vignette strength) = []
preset_of (Scanlines strength) = []

-- the preset of each LUT in the chain: of one, or of none
unfoldable pub presets : List Record → List ℕ
presets [] = []
presets (r ∷ rs) = preset_of r.pass ++ presets rs

abbrev pub step_lut : List Record → List Record
step_lut = on_first 5 stepped

-- a step reports the new preset
abbrev pub step_reply : Station → Reply
step_reply s = unless (lacks s 5) (refusing s) (reply (acceptance (presets (step_lut (chain_of s)))) (rechain (step_lut (chain_of s)) s))

-- ## Questions: what stands now. No station is given back, so they are no calls of the plain machine (Machine)

-- on is 1, off is 0
abbrev pub switch_of : Record → List ℕ
switch_of r = cond r.on 1 0 ∷ []

abbrev pub enabled_report : ℕ → Station → Report
enabled_report kind s = unless (lacks s kind) refusal (acceptance (of_first kind [] switch_of (chain_of s)))

abbrev pub preset_report : Station → Report
preset_report s = unless (lacks s 5) refusal (acceptance (of_first 5 [] (λ r. preset_of r.pass) (chain_of s)))

-- of how many samples a frame of that size takes, no frame given: it asks for a good station and for two sides, as a frame does first
unfoldable pub samples_stops : Station → (w h : ℕ) → ℕ
samples_stops s w h = cond (not (good_station s)) 13 (cond (bad_side w || bad_side h) 8 0)

abbrev pub samples_report : (w h : ℕ) → Station → Report
samples_report w h s = unless (samples_stops s w h) refusal (acceptance (samples_in w h (chain_of s) ∷ []))

-- ## Frame

-- what a call leaves that is lent buffers: the framebuffer and the history too
pub record Framed : Type 0 where
  pub answer : Report
  pub station : Station
  pub words : List ℕ
  pub past : List ℕ

abbrev pub framed : Report → Station → (words past : List ℕ) → Framed
framed answer s words past = record { answer = answer; station = s; words = words; past = past }

-- a refusal leaves the station, the framebuffer and the history as they were given
abbrev pub refusing_frame : Station → (words past : List ℕ) → ℕ → Framed
refusing_frame s words past k = framed (refusal k) s words past

module _ (A : Arith) (w h : ℕ) where
  -- an accepted frame: the chain runs over the first count words of the framebuffer, and it reports how many channels the
  -- passes that are on clipped, and how many samples their blurs took
  unfoldable pub shown_by : Station → (words past : List ℕ) → (curve : List Float) → Framed
  shown_by s words past curve =
      let x : Ran = chain_by A w h curve (chain_of s) (painted (take (h * w) words) 0) past in
      framed (acceptance (x.frame.clipped ∷ samples_in w h (chain_of s) ∷ [])) (rechain x.records s) (x.frame.words ++ drop (h * w) words) x.past

  -- `floats` and `ints` are the lengths of the scratches
  unfoldable pub frame_reply_by : Station → (words past : List ℕ) → (floats ints : ℕ) → (curve : List Float) → Framed
  frame_reply_by s words past floats ints curve =
      unless (stops s w h (length words) (length past) floats ints curve) (refusing_frame s words past) (shown_by s words past curve)

-- the product's

abbrev pub shown : (w h : ℕ) → Station → (words past : List ℕ) → (curve : List Float) → Framed
shown = shown_by plain

abbrev pub frame_reply : (w h : ℕ) → Station → (words past : List ℕ) → (floats ints : ℕ) → (curve : List Float) → Framed
frame_reply = frame_reply_by plain

-- ## A new depth (request P11)

abbrev pub deep_pass : ℕ → Pass → Pass
deep_pass d (Ntsc strength bleed) = Ntsc strength bleed
deep_pass d (Bloom threshold strength radius) = Bloom threshold strength radius
deep_pass d (AutoGradient strength vertical horizontal) = AutoGradient strength vertical horizontal
deep_pass d (Persistence amount depth) = Persistence amount d
deep_pass d (Lut preset strength) = Lut preset strength
deep_pass d (Curvature amount) = Curvature amount
deep_pass d (ColorCorrection brightness contrast saturation gamma) = ColorCorrection brightness contrast saturation gamma
deep_pass d (Crt strength) = Crt strength
deep_pass d (Vignette strength) = Vignette strength
deep_pass d (Scanlines strength) = Scanlines strength

abbrev pub with_depth : ℕ → Record → Record
with_depth d r = record { on = r.on; pass = deep_pass d r.pass; held = r.held }

-- the first persistence gets it; where it is another, each history behind it begins elsewhere, and is forgotten
unfoldable pub redepth : ℕ → List Record → List Record
redepth d [] = []
redepth d (r ∷ rs) =
    cond (eqb (kind_of r.pass) 4) (with_depth d r ∷ cond (eqb d (depth_of r.pass)) rs (forget rs)) (r ∷ redepth d rs)

-- by the card's rule; no framebuffer is lent, and of the history as many places as the first persistence has then are written
unfoldable pub depth_reply : (d : ℕ) → Station → (past : List ℕ) → Framed
depth_reply d s past =
    unless (depth_stops s d (length past)) (refusing_frame s [] past)
    (framed (acceptance []) (rechain (redepth (one_at_least d) (chain_of s)) s) []
    (resized (first_depth (chain_of s)) (one_at_least d) (area (first_held (chain_of s))) past))
