-- The way of a frame through the chain: the passes that are on, in the card's order, each persistence on its own part of the history. Assumes nothing.
use Rattle.std.specs.Prelude.{ℕ, ◌+◌, ◌*◌, Bool, false, cond, List, [], ◌∷◌, ◌++◌, map, Float, take, drop}
use Rattle.std.specs.List.{list_any}
use Rattle.num.specs.Held.{Held, sized}
use Rattle.passes.specs.Arith.{Arith, plain}
use Rattle.passes.specs.Fold.{fold}
use Rattle.passes.specs.Flow.{Flow, flow}
use Rattle.passes.specs.Painted.{Painted, onto, unclipped}
use Rattle.passes.specs.Samples.{ntsc_samples, bloom_samples}
use Rattle.passes.specs.Ntsc.{ntsc}
use Rattle.passes.specs.Bloom.{bloom}
use Rattle.passes.specs.AutoGradient.{auto_gradient}
use Rattle.passes.specs.Persistence.{persistence}
use Rattle.passes.specs.Lut.{lut}
use Rattle.passes.specs.Curvature.{curvature}
use Rattle.passes.specs.ColorCorrection.{curved, color_correction}
use Rattle.passes.specs.Crt.{crt}
use Rattle.passes.specs.Vignette.{vignette}
use Rattle.passes.specs.Scanlines.{scanlines}
use Rattle.cards.specs.declared.station.Pass.{Pass}
use Rattle.cards.specs.declared.station.Pass.TheVariants.{Ntsc, Bloom, AutoGradient, Persistence, Lut, Curvature}
use Rattle.cards.specs.declared.station.Pass.TheVariants.{ColorCorrection, Crt, Vignette, Scanlines}
use Rattle.cards.specs.declared.station.Record.{Record}

-- ## What a pass does

-- it paints the frame and keeps nothing, or it goes by what the history holds
pub data Work : Type 0 where
  paints : (List ℕ → Painted) → Work
  keeps : (Flow → Flow) → Work

-- a pass that keeps nothing: what it clips is added to what was clipped before
unfoldable pub wash : (List ℕ → Painted) → Flow → Flow
wash paint x = flow (onto paint x.frame) x.held x.past

abbrev pub flow_after : Work → Flow → Flow
flow_after (paints paint) = wash paint
flow_after (keeps step) = step

-- of a frame alone; one that keeps something leaves it
abbrev pub frame_after : Work → List ℕ → Painted
frame_after (paints paint) = paint
frame_after (keeps step) = unclipped (λ frame. frame)

-- ## The places of the history

-- how many older frames a pass keeps
abbrev pub depth_of : Pass → ℕ
depth_of (Ntsc strength bleed) = 0
depth_of (Bloom threshold strength radius) = 0
depth_of (AutoGradient strength vertical horizontal) = 0
depth_of (Persistence amount depth) = depth
depth_of (Lut preset strength) = 0
depth_of (Curvature amount) = 0
depth_of (ColorCorrection brightness contrast saturation gamma) = 0
depth_of (Crt strength) = 0
depth_of (Vignette strength) = 0
depth_of (Scanlines strength) = 0

-- document 01's K: the sum of the depths in the chain, on or off
unfoldable pub depth : List Record → ℕ
depth [] = 0
depth (r ∷ rs) = depth_of r.pass + depth rs

-- the sum of those that are on
unfoldable pub depth_on : List Record → ℕ
depth_on [] = 0
depth_on (r ∷ rs) = cond r.on (depth_of r.pass) 0 + depth_on rs

-- of each record
abbrev pub depths : List Record → List ℕ
depths = map (λ r. depth_of r.pass)

-- ## What a frame leaves

-- a record that holds something else
abbrev pub with_held : Held → Record → Record
with_held held r = record { on = r.on; pass = r.pass; held = held }

-- the picture, the records with what they hold, and the history
pub record Ran : Type 0 where
  pub frame : Painted
  pub records : List Record
  pub past : List ℕ

abbrev pub ran : Painted → List Record → (past : List ℕ) → Ran
ran frame records past = record { frame = frame; records = records; past = past }

-- ## The passes, over an arithmetic A (passes' Arith)

module _ (A : Arith) (w h : ℕ) (curve : List Float) where
  -- each pass's work at width w and height h, with the curve that is lent
  abbrev pub work_by : Pass → Work
  work_by (Ntsc strength bleed) = paints (ntsc A w (A.lit strength) bleed)
  work_by (Bloom threshold strength radius) = paints (bloom A w h threshold (A.lit strength) radius)
  work_by (AutoGradient strength vertical horizontal) =
      paints (auto_gradient A w h (A.lit strength) (A.lit vertical) (A.lit horizontal))
  work_by (Persistence amount depth) = keeps (persistence A (A.lit amount) depth (sized w h))
  work_by (Lut preset strength) = paints (lut A preset (A.lit strength))
  work_by (Curvature amount) = paints (unclipped (curvature A w h (A.lit amount)))
  work_by (ColorCorrection brightness contrast saturation gamma) =
      paints (color_correction A curve (A.lit brightness) (A.lit contrast) (A.lit saturation) gamma)
  work_by (Crt strength) = paints (unclipped (crt A w h (A.lit strength)))
  work_by (Vignette strength) = paints (unclipped (vignette A w h (A.lit strength)))
  work_by (Scanlines strength) = paints (unclipped (scanlines A w (A.lit strength)))

  -- one pass over a frame of that size
  unfoldable pub over_by : Pass → Flow → Flow
  over_by p = flow_after (work_by p)

  -- a record: its pass, where it is on, with what it holds
  unfoldable pub turn_by : Record → Painted → (past : List ℕ) → Flow
  turn_by r frame past = let x : Flow = flow frame r.held past in cond r.on (over_by r.pass x) x

  -- one record after the other: each gets the frame that the one before it leaves, and as many words of the history as it has places for
  unfoldable pub chain_by : List Record → Painted → (past : List ℕ) → Ran
  chain_by [] frame past = ran frame [] past
  chain_by (r ∷ rs) frame past =
      let room : ℕ = depth_of r.pass * (h * w) in
      let x : Flow = turn_by r frame (take room past) in
      let y : Ran = chain_by rs x.frame (drop room past) in
      ran y.frame (with_held x.held r ∷ y.records) (x.past ++ y.past)

-- the product's: binary32 and the number steps

-- the frame after a pass that keeps nothing
unfoldable pub paint : (w h : ℕ) → List Float → Pass → List ℕ → Painted
paint w h curve p = frame_after (work_by plain w h curve p)

abbrev pub over : (w h : ℕ) → List Float → Pass → Flow → Flow
over = over_by plain

abbrev pub turn : (w h : ℕ) → List Float → Record → Painted → (past : List ℕ) → Flow
turn = turn_by plain

abbrev pub chain : (w h : ℕ) → List Float → List Record → Painted → (past : List ℕ) → Ran
chain = chain_by plain

-- ## The curve

-- whether a pass reads it: colour, at a gamma other than 1.0
abbrev pub reads : Pass → Bool
reads (Ntsc strength bleed) = false
reads (Bloom threshold strength radius) = false
reads (AutoGradient strength vertical horizontal) = false
reads (Persistence amount depth) = false
reads (Lut preset strength) = false
reads (Curvature amount) = false
reads (ColorCorrection brightness contrast saturation gamma) = curved gamma
reads (Crt strength) = false
reads (Vignette strength) = false
reads (Scanlines strength) = false

-- whether a pass in the chain does, on or off
unfoldable pub reads_curve : List Record → Bool
reads_curve = list_any (λ r. reads r.pass)

-- ## The samples that blurs take (request P9)

-- those of a pass over a frame of width w and height h
abbrev pub samples_of : (w h : ℕ) → Pass → ℕ
samples_of w h (Ntsc strength bleed) = ntsc_samples w h bleed
samples_of w h (Bloom threshold strength radius) = bloom_samples w h radius
samples_of w h (AutoGradient strength vertical horizontal) = 0
samples_of w h (Persistence amount depth) = 0
samples_of w h (Lut preset strength) = 0
samples_of w h (Curvature amount) = 0
samples_of w h (ColorCorrection brightness contrast saturation gamma) = 0
samples_of w h (Crt strength) = 0
samples_of w h (Vignette strength) = 0
samples_of w h (Scanlines strength) = 0

-- a record's: its pass's, where it is on
unfoldable pub record_samples : (w h : ℕ) → Record → ℕ
record_samples w h r = cond r.on (samples_of w h r.pass) 0

-- of a chain, one record after the other
abbrev pub samples_in : (w h : ℕ) → List Record → ℕ
samples_in w h rs = fold (λ n r. n + record_samples w h r) 0 rs
