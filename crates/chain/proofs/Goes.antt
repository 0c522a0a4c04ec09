-- What no refusal of a frame tells, and how a refused and an accepted frame are said. Assumes nothing.
use Prim.Native.Nat.{ℕ, zero, suc, ◌*◌, ◌≤◌, ◌<◌}
use native.Mathlib.Omega.{arith}
use mathlib.Core.Path.{◌≡◌, refl, sym, ap, ap₂, ◌∙◌}
use mathlib.Core.Bool.{Bool, true, not, ◌&&◌, ◌||◌}
use mathlib.Core.List.{List, [], ◌∷◌, ◌++◌}
use borrow.Author.Tests.{ltb-false, not-false}
use lib.Dec.{ltb}
use lib.Ieee.{Float}
use lib.ListN.{length, take, drop}
use lib.Seq.{length-take-le, drop_at}
use Rattle.num.specs.Held.{sized}
use Rattle.num.specs.Refusals.{bad_side, unless}
use Rattle.num.specs.Laws.Bools.{neither}
use Rattle.num.specs.Laws.Refusals.{by, side_fine}
use Rattle.passes.specs.ColorCorrection.{good_curve}
use Rattle.passes.specs.Laws.Curves.{curve_long}
use Rattle.passes.specs.Painted.{painted}
use Rattle.cards.specs.Alike.{chain_of}
use Rattle.cards.specs.Answers.{refusal, acceptance}
use Rattle.chain.specs.Calls.{float_room, rechain, stops, framed, refusing_frame, shown, shown_by}
use Rattle.chain.specs.Calls.{frame_reply, frame_reply_by}
use Rattle.chain.specs.Chain.{Ran, ran, chain, depth, reads_curve, samples_in}
use Rattle.chain.specs.Lent.{Lent, Readies}
use Rattle.cards.specs.Normal.{good_station}
use Rattle.cards.specs.declared.station.Record.{Record}
use Rattle.cards.specs.declared.station.Station.{Station}
use Rattle.cards.specs.Laws.Good.{good}
use Rattle.chain.proofs.Depths.{readies}

pub record Goes (s : Station) (w h words history floats ints : ℕ) (curve : List Float) : Type 0 where
  pub good : good_station s ≡ true
  pub wide : (0 < w) × (w ≤ 1024)
  pub high : (0 < h) × (h ≤ 1024)
  pub frame_room : h * w ≤ words
  pub past_room : depth (chain_of s) * (h * w) ≤ history
  pub floats_room : float_room w h ≤ floats
  pub ints_room : h * w ≤ ints
  pub curve_good : reads_curve (chain_of s) ≡ true → good_curve curve ≡ true

pub goes : (s : Station) (w h words history floats ints : ℕ) (curve : List Float) → stops s w h words history floats ints curve ≡ 0
    → Goes s w h words history floats ints curve
unfolding stops
goes s w h words history floats ints curve e =
    let a = by (not (good_station s)) 13 _ (omega arith) e in
    let b = by (bad_side w || bad_side h) 8 _ (omega arith) a.1 in
    let c = by (ltb words (h * w)) 9 _ (omega arith) b.1 in
    let d = by (ltb history (depth (chain_of s) * (h * w))) 10 _ (omega arith) c.1 in
    let f = by (ltb floats (float_room w h) || ltb ints (h * w)) 11 _ (omega arith) d.1 in
    let k = by (reads_curve (chain_of s) && not (good_curve curve)) 16 0 (omega arith) f.1 in
    let sides = neither (bad_side w) (bad_side h) b.0 in
    let scratch = neither (ltb floats (float_room w h)) (ltb ints (h * w)) f.0 in
    record {
      good = not-false _ a.0;
      wide = side_fine w sides.0;
      high = side_fine h sides.1;
      frame_room = ltb-false words (h * w) c.0;
      past_room = ltb-false history (depth (chain_of s) * (h * w)) d.0;
      floats_room = ltb-false floats (float_room w h) scratch.0;
      ints_room = ltb-false ints (h * w) scratch.1;
      curve_good = λ r. not-false _ (sym (ap (λ (b : Bool). b && not (good_curve curve)) r) ∙ k.0);
    }

-- past the refusals, what the chain is lent: the first words of each buffer
pub lends : (s : Station) (w h : ℕ) (words past : List ℕ) (floats : List Float) (ints : List ℕ) (curve : List Float)
    → Goes s w h (length words) (length past) (length floats) (length ints) curve
    → Lent (sized w h) (take (h * w) words) (take (float_room w h) floats) (take (h * w) ints) × Readies (sized w h) (chain_of s) (length past) (length curve)
lends s w h words past floats ints curve g = (
  record {
    shape = record { area = length-take-le _ _ g.frame_room; wide = g.wide.1; high = g.high.1 };
    some-wide = g.wide.0;
    some_high = g.high.0;
    floats_room = length-take-le _ _ g.floats_room;
    ints_room = length-take-le _ _ g.ints_room;
  },
  readies s (sized w h) (length past) (length curve) g.good g.past_room (λ r. curve_long curve (g.curve_good r)),
)

-- a good station's chain has as many records as its n says
pub chain_long : (s : Station) (rs : List Record) → good_station s ≡ true → length s.records ≡ 12 → rs ≡ chain_of s → length rs ≡ s.n
chain_long s rs g long e = let few = (good s g).few in ap length e ∙ length-take-le s.n s.records (omega arith)

-- the words behind the first k stay
pub stays : {X : Type 0} (k : ℕ) (new old : List X) → k ≤ length old → length new ≡ length (take k old) → drop k (new ++ drop k old) ≡ drop k old
stays k new old l e = drop_at new (drop k old) k (e ∙ length-take-le k old l)

module _ (k w h : ℕ) (s : Station) (words past : List ℕ) (floats ints : ℕ) (curve : List Float)
    (e : k ≡ stops s w h (length words) (length past) floats ints curve) where
  -- a frame's reply by its refusal: everything as it was given
  pub refused_frame : (k ≡ 0 → ⊥) → framed (refusal k) s words past ≡ frame_reply w h s words past floats ints curve
  unfolding frame_reply_by unless
  refused_frame = go k e
    where
      go : (j : ℕ) → j ≡ stops s w h (length words) (length past) floats ints curve → (j ≡ 0 → ⊥)
          → framed (refusal j) s words past ≡ frame_reply w h s words past floats ints curve
      go zero q n = absurd (n refl)
      go (suc j) q n = ap (λ (m : ℕ). unless m (refusing_frame s words past) (shown w h s words past curve)) q

  -- or what the chain makes of it; the records past n are as they were
  pub shown_frame : k ≡ 0 → {frame' past' : List ℕ} {records' : List Record} {clipped' samples' : ℕ}
      → ran (painted frame' clipped') records' past' ≡ chain w h curve (chain_of s) (painted (take (h * w) words) 0) past
      → samples' ≡ samples_in w h (chain_of s)
      → framed (acceptance (clipped' ∷ samples' ∷ [])) (rechain records' s) (frame' ++ drop (h * w) words) past'
      ≡ frame_reply w h s words past floats ints curve
  unfolding frame_reply_by unless shown_by
  shown_frame z x n =
      ap₂ (λ (y : Ran) (m : ℕ). framed (acceptance (y.frame.clipped ∷ m ∷ [])) (rechain y.records s) (y.frame.words ++ drop (h * w) words) y.past) x n
      ∙ ap (λ (m : ℕ). unless m (refusing_frame s words past) (shown w h s words past curve)) (sym z ∙ e)
