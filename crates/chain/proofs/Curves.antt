-- Two curves with the same first 256 words, where there are as many: a frame makes the same of them. Assumes nothing.
use Prim.Native.Nat.{ℕ, zero, suc, ◌+◌, ◌*◌}
use mathlib.Core.Path.{◌≡◌, refl, ap, ◌∙◌}
use mathlib.Core.Bool.{true, cond}
use mathlib.Core.List.{List, [], ◌∷◌, ◌++◌}
use lib.Ieee.{Float}
use lib.ListN.{length, take, drop}
use Rattle.num.specs.Laws.Bools.{or_left, or-second}
use Rattle.num.specs.Refusals.{unless}
use Rattle.passes.specs.Arith.{plain}
use Rattle.passes.specs.Flow.{Flow, flow}
use Rattle.passes.specs.Laws.Curves.{curve_long, same_good, color_correction_same}
use Rattle.passes.specs.Painted.{Painted, painted}
use Rattle.cards.specs.Alike.{chain_of}
use Rattle.cards.specs.Answers.{acceptance}
use Rattle.cards.specs.declared.station.Pass.{Pass}
use Rattle.cards.specs.declared.station.Pass.TheVariants.{Ntsc, Bloom, AutoGradient, Persistence, Lut, Curvature}
use Rattle.cards.specs.declared.station.Pass.TheVariants.{ColorCorrection, Crt, Vignette, Scanlines}
use Rattle.cards.specs.declared.station.Record.{Record}
use Rattle.cards.specs.declared.station.Station.{Station}
use Rattle.chain.specs.Agree.{SameFirst}
use Rattle.chain.specs.Calls.{rechain, stops, framed, refusing_frame, shown, shown_by, frame_reply, frame_reply_by}
use Rattle.chain.specs.Chain.{wash, over, over_by, turn, turn_by, with_held, Ran, ran, chain, chain_by, depth_of, reads, reads_curve, samples_in}
use Rattle.chain.proofs.Goes.{goes}

module _ (w h : ℕ) (curve other : List Float) where
  over_curve : (p : Pass) (x : Flow) → (reads p ≡ true → take 256 curve ≡ take 256 other) → over w h curve p x ≡ over w h other p x
  unfolding over_by wash
  over_curve (Ntsc strength bleed) x same = refl
  over_curve (Bloom threshold strength radius) x same = refl
  over_curve (AutoGradient strength vertical horizontal) x same = refl
  over_curve (Persistence amount depth) x same = refl
  over_curve (Lut preset strength) x same = refl
  over_curve (Curvature amount) x same = refl
  over_curve (ColorCorrection brightness contrast saturation gamma) x same =
      ap (λ (y : Painted). flow (painted y.words (x.frame.clipped + y.clipped)) x.held x.past)
      (color_correction_same plain curve other gamma same brightness contrast saturation x.frame.words)
  over_curve (Crt strength) x same = refl
  over_curve (Vignette strength) x same = refl
  over_curve (Scanlines strength) x same = refl

  turn_curve : (r : Record) (frame : Painted) (past : List ℕ) → (reads r.pass ≡ true → take 256 curve ≡ take 256 other)
      → turn w h curve r frame past ≡ turn w h other r frame past
  unfolding turn_by
  turn_curve r frame past same =
      let x : Flow = flow frame r.held past in
      ap (λ (y : Flow). cond r.on y x) (over_curve r.pass x same)

  chain_curve : (rs : List Record) (frame : Painted) (past : List ℕ) → (reads_curve rs ≡ true → take 256 curve ≡ take 256 other)
      → chain w h curve rs frame past ≡ chain w h other rs frame past
  unfolding chain_by reads_curve
  chain_curve [] frame past same = refl
  chain_curve (r ∷ rs) frame past same =
      let room = depth_of r.pass * (h * w) in
      let then : Flow → Ran → Ran = λ x y. ran y.frame (with_held x.held r ∷ y.records) (x.past ++ y.past) in
      let x : Flow = turn w h other r frame (take room past) in
      ap (λ (y : Flow). then y (chain w h curve rs y.frame (drop room past)))
      (turn_curve r frame (take room past) (λ e. same (or_left (reads r.pass) (reads_curve rs) e)))
      ∙ ap (then x) (chain_curve rs x.frame (drop room past) (λ e. same (or-second (reads r.pass) (reads_curve rs) e)))

pub stops_curve : (s : Station) (w h words history floats ints : ℕ) {curve other : List Float} → SameFirst 256 curve other
    → stops s w h words history floats ints curve ≡ stops s w h words history floats ints other
unfolding stops
stops_curve s w h words history floats ints {curve} {other} same = rw (same_good curve other same.same_length same.same_first)

pub reply_curve : (w h : ℕ) (s : Station) (words past : List ℕ) (floats ints : ℕ) {curve other : List Float} → SameFirst 256 curve other
    → frame_reply w h s words past floats ints curve ≡ frame_reply w h s words past floats ints other
unfolding frame_reply_by unless shown_by
reply_curve w h s words past floats ints {curve} {other} same =
    go (stops s w h (length words) (length past) floats ints curve) refl
    ∙ ap (λ (k : ℕ). unless k (refusing_frame s words past) (shown w h s words past other)) (stops_curve s w h (length words) (length past) floats ints same)
  where
    go : (k : ℕ) → stops s w h (length words) (length past) floats ints curve ≡ k
        → unless k (refusing_frame s words past) (shown w h s words past curve) ≡ unless k (refusing_frame s words past) (shown w h s words past other)
    go zero e =
        let g = goes s w h (length words) (length past) floats ints curve e in
        ap (λ (x : Ran). framed (acceptance (x.frame.clipped ∷ samples_in w h (chain_of s) ∷ [])) (rechain x.records s) (x.frame.words ++ drop (h * w) words) x.past)
        (chain_curve w h curve other (chain_of s) (painted (take (h * w) words) 0) past (λ r. same.same_first (curve_long curve (g.curve_good r))))
    go (suc k) e = refl
