-- The ten passes by cases: persistence or a pass that only paints the frame; a LUT, persistence or a pass that no call changes but in its switch; and what the
-- other arm of a `match` tells. Assumes nothing.
use Prim.Native.Nat.{ℕ, ◌+◌, ◌*◌, ◌≤◌, zero-le}
use native.Mathlib.Omega.{arith}
use mathlib.Core.Path.{◌≡◌, refl, sym, ap, ◌∙◌}
use mathlib.Core.Bool.{false}
use mathlib.Core.List.{List, [], ◌++◌}
use lib.Dec.{eqb}
use lib.Ieee.{Float}
use lib.ListN.{length, get_or, drop}
use lib.Seq.{drop-append_seam}
use Rattle.num.specs.Held.{sized}
use Rattle.passes.specs.Flow.{Flow}
use Rattle.passes.specs.Laws.Lengths.{ntsc_paints, bloom_paints, auto_gradient_paints, lut_paints, color_correction_paints}
use Rattle.passes.specs.Laws.Lengths.{curvature-length, crt-length, vignette-length, scanlines-length}
use Rattle.passes.specs.Laws.Lengths.{persistence-length, persistence-few, history_length}
use Rattle.passes.specs.Painted.{painted}
use Rattle.passes.specs.Laws.Painted.{Paints}
use Rattle.chain.specs.Calls.{next, stepped_pass, preset_of, deep_pass}
use Rattle.chain.specs.Chain.{wash, paint, over, over_by, depth_of, reads, samples_of}
use Rattle.cards.specs.Passes.{kind_of}
use Rattle.cards.specs.declared.station.Pass.{Pass}
use Rattle.cards.specs.declared.station.Pass.TheVariants.{Ntsc, Bloom, AutoGradient, Persistence, Lut, Curvature}
use Rattle.cards.specs.declared.station.Pass.TheVariants.{ColorCorrection, Crt, Vignette, Scanlines}

-- ## Persistence, or a pass that only paints the frame

pub record Plain (p : Pass) : Type 0 where
  pub paints : (w h : ℕ) (curve : List Float) (frame : List ℕ) → Paints frame (paint w h curve p frame)
  pub whole : (w h : ℕ) (curve : List Float) (x : Flow) → over w h curve p x ≡ wash (paint w h curve p) x
  pub kind : eqb (kind_of p) 4 ≡ false
  pub no_depth : depth_of p ≡ 0

-- words of a pass that clips nothing
unclipped_paints : (frame words : List ℕ) → length words ≡ length frame → Paints frame (painted words 0)
unclipped_paints frame words e = record { long = e; few = zero-le }

pub by_memory : (P : Pass → Type 0) → ((amount : Float) (k : ℕ) → P (Persistence amount k)) → ((p : Pass) → Plain p → P p) → (p : Pass) → P p
unfolding paint over_by
by_memory P f g (Ntsc s b) =
    g _ (record { paints = λ w h curve l. ntsc_paints w h s l b; whole = λ w h curve x. refl; kind = refl; no_depth = refl })
by_memory P f g (Bloom t s r) =
    g _ (record { paints = λ w h curve l. bloom_paints w h s l t r; whole = λ w h curve x. refl; kind = refl; no_depth = refl })
by_memory P f g (AutoGradient s u v) =
    g _ (record { paints = λ w h curve l. auto_gradient_paints w h s l u v; whole = λ w h curve x. refl; kind = refl; no_depth = refl })
by_memory P f g (Persistence a k) = f a k
by_memory P f g (Lut p s) =
    g _ (record { paints = λ w h curve l. lut_paints w h s l p; whole = λ w h curve x. refl; kind = refl; no_depth = refl })
by_memory P f g (Curvature a) =
    g _ (record { paints = λ w h curve l. unclipped_paints l _ (curvature-length w h a l); whole = λ w h curve x. refl; kind = refl; no_depth = refl })
by_memory P f g (ColorCorrection b c s y) =
    g _ (record { paints = λ w h curve l. color_correction_paints w h b l curve c s y; whole = λ w h curve x. refl; kind = refl; no_depth = refl })
by_memory P f g (Crt s) =
    g _ (record { paints = λ w h curve l. unclipped_paints l _ (crt-length w h s l); whole = λ w h curve x. refl; kind = refl; no_depth = refl })
by_memory P f g (Vignette s) =
    g _ (record { paints = λ w h curve l. unclipped_paints l _ (vignette-length w h s l); whole = λ w h curve x. refl; kind = refl; no_depth = refl })
by_memory P f g (Scanlines s) =
    g _ (record { paints = λ w h curve l. unclipped_paints l _ (scanlines-length w h s l); whole = λ w h curve x. refl; kind = refl; no_depth = refl })

-- any pass but persistence paints the frame
pub over_paints : (w h : ℕ) (curve : List Float) (x : Flow) (p : Pass) → (kind_of p ≡ 4 → ⊥) → over w h curve p x ≡ wash (paint w h curve p) x
over_paints w h curve x =
    by_memory (λ p. (kind_of p ≡ 4 → ⊥) → over w h curve p x ≡ wash (paint w h curve p) x) (λ amount k n. absurd (n refl)) (λ p m n. m.whole w h curve x)

-- ## What each pass keeps

module _ (w h : ℕ) (curve : List Float) (x : Flow) where
  pub over_frame : (p : Pass) → length (over w h curve p x).frame.words ≡ length x.frame.words
  unfolding over_by wash
  over_frame =
      by_memory (λ p. length (over w h curve p x).frame.words ≡ length x.frame.words) (λ amount k. persistence-length amount k (sized w h) x)
      (λ p m. ap (λ (y : Flow). length y.frame.words) (m.whole w h curve x) ∙ (m.paints w h curve x.frame.words).long)

  -- and how few channels it clips
  pub over-few : (p : Pass) → (over w h curve p x).frame.clipped ≤ x.frame.clipped + 3 * length x.frame.words
  unfolding over_by wash
  over-few =
      by_memory (λ p. (over w h curve p x).frame.clipped ≤ x.frame.clipped + 3 * length x.frame.words)
      (λ amount k. persistence-few amount k (sized w h) x)
      (λ p m. rw (m.whole w h curve x) (omega (arith, (m.paints w h curve x.frame.words).few)))

  pub over-past : (p : Pass) → depth_of p * length x.frame.words ≤ length x.past → length (over w h curve p x).past ≡ length x.past
  unfolding over_by wash
  over-past =
      by_memory (λ p. depth_of p * length x.frame.words ≤ length x.past → length (over w h curve p x).past ≡ length x.past)
      (λ amount k room. history_length amount k (sized w h) x room) (λ p m room. ap (λ (y : Flow). length y.past) (m.whole w h curve x))

-- ## Any pass but persistence

-- keeps no older frame
pub no_depth : (p : Pass) → (kind_of p ≡ 4 → ⊥) → depth_of p ≡ 0
no_depth = by_memory (λ p. (kind_of p ≡ 4 → ⊥) → depth_of p ≡ 0) (λ amount k n. absurd (n refl)) (λ p m n. m.no_depth)

-- ## A LUT, persistence, or a pass that no call changes but in its switch

-- a pass but for its preset and its depth
abbrev pub blank : Pass → Pass
blank (Ntsc strength bleed) = Ntsc strength bleed
blank (Bloom threshold strength radius) = Bloom threshold strength radius
blank (AutoGradient strength vertical horizontal) = AutoGradient strength vertical horizontal
blank (Persistence amount depth) = Persistence amount 0
blank (Lut preset strength) = Lut 0 strength
blank (Curvature amount) = Curvature amount
blank (ColorCorrection brightness contrast saturation gamma) = ColorCorrection brightness contrast saturation gamma
blank (Crt strength) = Crt strength
blank (Vignette strength) = Vignette strength
blank (Scanlines strength) = Scanlines strength

-- such a pass with the preset at the head of a list and a depth, where it has them
abbrev refill : Pass → List ℕ → ℕ → Pass
refill (Ntsc strength bleed) ps d = Ntsc strength bleed
refill (Bloom threshold strength radius) ps d = Bloom threshold strength radius
refill (AutoGradient strength vertical horizontal) ps d = AutoGradient strength vertical horizontal
refill (Persistence amount depth) ps d = Persistence amount d
refill (Lut preset strength) ps d = Lut (get_or ps 0 0) strength
refill (Curvature amount) ps d = Curvature amount
refill (ColorCorrection brightness contrast saturation gamma) ps d = ColorCorrection brightness contrast saturation gamma
refill (Crt strength) ps d = Crt strength
refill (Vignette strength) ps d = Vignette strength
refill (Scanlines strength) ps d = Scanlines strength

-- a pass without a preset and without a depth
pub record Other (p : Pass) : Type 0 where
  pub whole : blank p ≡ p
  refilled : (ps : List ℕ) (d : ℕ) → refill p ps d ≡ p
  pub no_preset : preset_of p ≡ []
  pub unstepped : stepped_pass p ≡ p
  pub undeepened : (d : ℕ) → deep_pass d p ≡ p

module _ (P : Pass → Type 0) (f : (preset : ℕ) (strength : Float) → P (Lut preset strength)) (g : (amount : Float) (k : ℕ) → P (Persistence amount k))
    (h : (p : Pass) → Other p → P p)
  where
    other : (p : Pass) → blank p ≡ p → ((ps : List ℕ) (d : ℕ) → refill p ps d ≡ p) → preset_of p ≡ [] → stepped_pass p ≡ p
        → ((d : ℕ) → deep_pass d p ≡ p) → P p
    other p a b c d e = h p (record { whole = a; refilled = b; no_preset = c; unstepped = d; undeepened = e })

    pub by_setting : (p : Pass) → P p
    by_setting (Ntsc a b) = other _ refl (λ ps d. refl) refl refl (λ d. refl)
    by_setting (Bloom a b c) = other _ refl (λ ps d. refl) refl refl (λ d. refl)
    by_setting (AutoGradient a b c) = other _ refl (λ ps d. refl) refl refl (λ d. refl)
    by_setting (Persistence a b) = g a b
    by_setting (Lut a b) = f a b
    by_setting (Curvature a) = other _ refl (λ ps d. refl) refl refl (λ d. refl)
    by_setting (ColorCorrection a b c d) = other _ refl (λ ps d. refl) refl refl (λ d. refl)
    by_setting (Crt a) = other _ refl (λ ps d. refl) refl refl (λ d. refl)
    by_setting (Vignette a) = other _ refl (λ ps d. refl) refl refl (λ d. refl)
    by_setting (Scanlines a) = other _ refl (λ ps d. refl) refl refl (λ d. refl)

-- what a pass is, from what it is but for preset and depth, and these
refilled-whole : (p : Pass) (u : List ℕ) → refill (blank p) (preset_of p ++ u) (depth_of p) ≡ p
refilled-whole p u =
    by_setting (λ p. refill (blank p) (preset_of p ++ u) (depth_of p) ≡ p) (λ preset strength. refl) (λ amount k. refl)
    (λ p o. ap (λ (q : Pass). refill q (preset_of p ++ u) (depth_of p)) o.whole ∙ o.refilled (preset_of p ++ u) (depth_of p)) p

pub same_pass : (p q : Pass) (u v : List ℕ) → blank p ≡ blank q → preset_of p ++ u ≡ preset_of q ++ v → depth_of p ≡ depth_of q → (p ≡ q) × (u ≡ v)
same_pass p q u v a b c =
    let one : p ≡ q = sym (refilled-whole p u) ∙ (λ i. refill (a i) (b i) (c i)) ∙ refilled-whole q v in
    let after : Pass → List ℕ → List ℕ = λ r. drop (length (preset_of r)) in
    (one, sym (drop-append_seam (preset_of p) u) ∙ (λ i. after (one i) (b i)) ∙ drop-append_seam (preset_of q) v)

-- any pass but a LUT has no preset, and is not changed by a step
pub no_lut : (p : Pass) → (kind_of p ≡ 5 → ⊥) → (preset_of p ≡ []) × (stepped_pass p ≡ p)
no_lut =
    by_setting (λ p. (kind_of p ≡ 5 → ⊥) → (preset_of p ≡ []) × (stepped_pass p ≡ p)) (λ preset strength n. absurd (n refl)) (λ amount k n. (refl, refl))
    (λ p o n. (o.no_preset, o.unstepped))

-- any pass but persistence is not changed by a new depth
pub no_persistence : (p : Pass) → (kind_of p ≡ 4 → ⊥) → (d : ℕ) → deep_pass d p ≡ p
no_persistence =
    by_setting (λ p. (kind_of p ≡ 4 → ⊥) → (d : ℕ) → deep_pass d p ≡ p) (λ preset strength n d. refl) (λ amount k n. absurd (n refl))
    (λ p o n. o.undeepened)

pub stepped_kind : (p : Pass) → kind_of (stepped_pass p) ≡ kind_of p
stepped_kind = by_setting (λ p. kind_of (stepped_pass p) ≡ kind_of p) (λ preset strength. refl) (λ amount k. refl) (λ p o. ap kind_of o.unstepped)

pub deep_kind : (d : ℕ) (p : Pass) → kind_of (deep_pass d p) ≡ kind_of p
deep_kind d = by_setting (λ p. kind_of (deep_pass d p) ≡ kind_of p) (λ preset strength. refl) (λ amount k. refl) (λ p o. ap kind_of (o.undeepened d))

pub stepped-depth : (p : Pass) → depth_of (stepped_pass p) ≡ depth_of p
stepped-depth = by_setting (λ p. depth_of (stepped_pass p) ≡ depth_of p) (λ preset strength. refl) (λ amount k. refl) (λ p o. ap depth_of o.unstepped)

-- a LUT with its next preset
pub steps : (p : Pass) {preset new : ℕ} {strength : Float} → p ≡ Lut preset strength → new ≡ next preset → Lut new strength ≡ stepped_pass p
steps p {strength = strength} e n = ap (λ (k : ℕ). Lut k strength) n ∙ ap stepped_pass (sym e)

-- persistence with a new depth
pub deep : (p : Pass) {amount : Float} {k : ℕ} (d : ℕ) → p ≡ Persistence amount k → Persistence amount d ≡ deep_pass d p
deep p d e = ap (deep_pass d) (sym e)

-- ## Colour, or a pass that reads no curve

pub no_curve : (p : Pass) → (kind_of p ≡ 7 → ⊥) → reads p ≡ false
no_curve (Ntsc strength bleed) n = refl
no_curve (Bloom threshold strength radius) n = refl
no_curve (AutoGradient strength vertical horizontal) n = refl
no_curve (Persistence amount depth) n = refl
no_curve (Lut preset strength) n = refl
no_curve (Curvature amount) n = refl
no_curve (ColorCorrection brightness contrast saturation gamma) n = absurd (n refl)
no_curve (Crt strength) n = refl
no_curve (Vignette strength) n = refl
no_curve (Scanlines strength) n = refl

-- ## NTSC, bloom, or a pass that blurs nothing

pub no_samples : (w h : ℕ) (p : Pass) → (kind_of p ≡ 1 → ⊥) → (kind_of p ≡ 2 → ⊥) → samples_of w h p ≡ 0
no_samples w h (Ntsc strength bleed) n b = absurd (n refl)
no_samples w h (Bloom threshold strength radius) n b = absurd (b refl)
no_samples w h (AutoGradient strength vertical horizontal) n b = refl
no_samples w h (Persistence amount depth) n b = refl
no_samples w h (Lut preset strength) n b = refl
no_samples w h (Curvature amount) n b = refl
no_samples w h (ColorCorrection brightness contrast saturation gamma) n b = refl
no_samples w h (Crt strength) n b = refl
no_samples w h (Vignette strength) n b = refl
no_samples w h (Scanlines strength) n b = refl

-- ## What the other arm of a `match` tells: a pass that is not that variant has not its kind

-- any pass but persistence
abbrev pub Painter : Pass → Type 0
Painter p = (amount : Float) (depth : ℕ) → p ≡ Persistence amount depth → ⊥

pub not-persistence : (p : Pass) → Painter p → kind_of p ≡ 4 → ⊥
not-persistence (Ntsc strength bleed) other same = omega arith
not-persistence (Bloom threshold strength radius) other same = omega arith
not-persistence (AutoGradient strength vertical horizontal) other same = omega arith
not-persistence (Persistence amount depth) other same = other amount depth refl
not-persistence (Lut preset strength) other same = omega arith
not-persistence (Curvature amount) other same = omega arith
not-persistence (ColorCorrection brightness contrast saturation gamma) other same = omega arith
not-persistence (Crt strength) other same = omega arith
not-persistence (Vignette strength) other same = omega arith
not-persistence (Scanlines strength) other same = omega arith

pub not-lut : (p : Pass) → ((preset : ℕ) (strength : Float) → p ≡ Lut preset strength → ⊥) → kind_of p ≡ 5 → ⊥
not-lut (Ntsc strength bleed) other same = omega arith
not-lut (Bloom threshold strength radius) other same = omega arith
not-lut (AutoGradient strength vertical horizontal) other same = omega arith
not-lut (Persistence amount depth) other same = omega arith
not-lut (Lut preset strength) other same = other preset strength refl
not-lut (Curvature amount) other same = omega arith
not-lut (ColorCorrection brightness contrast saturation gamma) other same = omega arith
not-lut (Crt strength) other same = omega arith
not-lut (Vignette strength) other same = omega arith
not-lut (Scanlines strength) other same = omega arith

pub not-colour : (p : Pass) → ((brightness contrast saturation gamma : Float) → p ≡ ColorCorrection brightness contrast saturation gamma → ⊥) → kind_of p ≡ 7 → ⊥
not-colour (Ntsc strength bleed) other same = omega arith
not-colour (Bloom threshold strength radius) other same = omega arith
not-colour (AutoGradient strength vertical horizontal) other same = omega arith
not-colour (Persistence amount depth) other same = omega arith
not-colour (Lut preset strength) other same = omega arith
not-colour (Curvature amount) other same = omega arith
not-colour (ColorCorrection brightness contrast saturation gamma) other same = other brightness contrast saturation gamma refl
not-colour (Crt strength) other same = omega arith
not-colour (Vignette strength) other same = omega arith
not-colour (Scanlines strength) other same = omega arith

-- neither of the two that blur
pub not-ntsc : (p : Pass) → ((strength : Float) (bleed : ℕ) → p ≡ Ntsc strength bleed → ⊥) → kind_of p ≡ 1 → ⊥
not-ntsc (Ntsc strength bleed) other same = other strength bleed refl
not-ntsc (Bloom threshold strength radius) other same = omega arith
not-ntsc (AutoGradient strength vertical horizontal) other same = omega arith
not-ntsc (Persistence amount depth) other same = omega arith
not-ntsc (Lut preset strength) other same = omega arith
not-ntsc (Curvature amount) other same = omega arith
not-ntsc (ColorCorrection brightness contrast saturation gamma) other same = omega arith
not-ntsc (Crt strength) other same = omega arith
not-ntsc (Vignette strength) other same = omega arith
not-ntsc (Scanlines strength) other same = omega arith

pub not-bloom : (p : Pass) → ((threshold : ℕ) (strength : Float) (radius : ℕ) → p ≡ Bloom threshold strength radius → ⊥) → kind_of p ≡ 2 → ⊥
not-bloom (Ntsc strength bleed) other same = omega arith
not-bloom (Bloom threshold strength radius) other same = other threshold strength radius refl
not-bloom (AutoGradient strength vertical horizontal) other same = omega arith
not-bloom (Persistence amount depth) other same = omega arith
not-bloom (Lut preset strength) other same = omega arith
not-bloom (Curvature amount) other same = omega arith
not-bloom (ColorCorrection brightness contrast saturation gamma) other same = omega arith
not-bloom (Crt strength) other same = omega arith
not-bloom (Vignette strength) other same = omega arith
not-bloom (Scanlines strength) other same = omega arith
