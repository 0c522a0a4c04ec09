-- A frame, from what the station answers. Assumes nothing.
use Prim.Native.Nat.{ℕ, zero, suc, ◌*◌}
use mathlib.Core.Path.{◌≡◌, refl, ap, subst, ◌∙◌}
use mathlib.Core.Bool.{true}
use mathlib.Core.List.{List, [], ◌++◌}
use lib.ListN.{length, take, drop, take-append-drop}
use lib.Ieee.{Float}
use Rattle.std.specs.Prelude.{Result}
use Rattle.num.specs.Refusals.{unless}
use Rattle.num.specs.declared.refusal.Refusal.{Refusal}
use Rattle.num.specs.Laws.Refusals.{refuses, accepts}
use Rattle.passes.specs.declared.blur.Counts.{Counts}
use Rattle.chain.specs.Answers.{reported_frame, Applies}
use Rattle.chain.specs.Laws.Answers.{stay}
use Rattle.chain.specs.Calls.{Framed, float_room, stops, frame_reply}
use Rattle.cards.specs.declared.station.Station.{Station}
use Rattle.events.specs.Buffers.{Printed}
use Rattle.raster.specs.Pixels.{unpacked}
use Rattle.events.specs.Events.{width_in, height_in}
use Rattle.events.specs.Play.{Outcome, outcome, pictured, refusal_line, shown, frame_replied, show_played, among, frame_played}
use Rattle.events.specs.Promises.{Gives, went_on}
use Rattle.events.specs.declared.play.Played.{Played}

module _ (w h : ℕ) (s : Station) (pixels words past : List ℕ) (floats : List Float) (ints out : List ℕ) (k : ℕ)
    (asks : k ≡ stops s w h (length words) (length past) (length floats) (length ints) [])
    (all : length words ≡ h * w) (few : length floats ≡ 6144) (few' : length ints ≡ 1024) where
  number : k ≡ stops s w h (h * w) (length past) 6144 1024 []
  number = rw (← all, ← few, ← few') asks

  -- the station refuses it
  pub unshown : (n : ℕ) (out' : List ℕ) → (k ≡ 0 → ⊥) → Printed (refusal_line k) n out out'
      → Gives (show_played w h s pixels words past) (went_on n) s words past floats floats ints ints out out'
  unshown n out' some p =
      subst (λ (o : Outcome). Gives o (went_on n) s words past floats floats ints ints out out')
      (refuses k (λ j. outcome s words past (refusal_line j) true) (shown w h (frame_replied w h s pixels past)) number some)
      (record {
        station = refl;
        words = refl;
        past = refl;
        floats_stay = refl;
        ints_stay = refl;
        says = record { goes_on = refl; prints = p };
      })

  -- the call on its words left the rest
  pub shows : (n : ℕ) (given : List ℕ) (r : Result Counts Refusal) (u : Station) (words' past' : List ℕ) (floats' : List Float) (ints' out' : List ℕ) → k ≡ 0
      → given ≡ unpacked (length words) pixels → Applies w h s given past floats ints [] r u words' past' floats' ints'
      → Printed (pictured (reported_frame r) words') n out out'
      → Gives (show_played w h s pixels words past) (went_on n) u words' past' floats floats' ints ints' out out'
  shows n given r u words' past' floats' ints' out' none e a p =
      let same : frame_reply w h s given past (length floats) (length ints) [] ≡ frame_replied w h s pixels past = rw (e, all, few, few') in
      subst (λ (o : Outcome). Gives o (went_on n) u words' past' floats floats' ints ints' out out')
      (accepts k (λ j. outcome s words past (refusal_line j) true) (shown w h (frame_replied w h s pixels past)) number none)
      (subst (λ (q : Framed). Gives (shown w h q) (went_on n) u words' past' floats floats' ints ints' out out')
      (a.replies ∙ same)
      (record {
        station = refl;
        words = refl;
        past = refl;
        floats_stay = stay r (float_room w h) floats floats' a.floats_stay;
        ints_stay = stay r (h * w) ints ints' a.ints_stay;
        says = record { goes_on = refl; prints = p };
      }))

-- the words of the frame were the first of the framebuffer's
pub in_front : (bytes : List ℕ) (s : Station) (words past : List ℕ) (w h : ℕ) (pixels : List ℕ) (r : Played) (u : Station) (words' past' : List ℕ)
    (floats floats' : List Float) (ints ints' out out' : List ℕ) → w ≡ width_in bytes → h ≡ height_in bytes → pixels ≡ drop 3 bytes
    → Gives (show_played w h s pixels (take (h * w) words) past) r u words' past' floats floats' ints ints' out out'
    → Gives (frame_played bytes s words past) r u (words' ++ drop (h * w) words) past' floats floats' ints ints' out out'
unfolding unless
in_front bytes s words past w h pixels r u words' past' floats floats' ints ints' out out' ew eh ep g =
    rw (← ew, ← eh, ← ep) (go (stops s w h (h * w) (length past) 6144 1024 []) g)
  where
    done : Outcome
    done = shown w h (frame_replied w h s pixels past)

    go : (n : ℕ) → Gives (unless n (λ k. outcome s (take (h * w) words) past (refusal_line k) true) done) r u words' past' floats floats' ints ints' out out'
        → Gives (unless n (λ k. outcome s words past (refusal_line k) true) (among (h * w) words done))
        r u (words' ++ drop (h * w) words) past' floats floats' ints ints' out out'
    go zero g = record {
      station = g.station;
      words = ap (λ (xs : List ℕ). xs ++ drop (h * w) words) g.words;
      past = g.past;
      floats_stay = g.floats_stay;
      ints_stay = g.ints_stay;
      says = g.says;
    }
    go (suc n) g = record {
      station = g.station;
      words = ap (λ (xs : List ℕ). xs ++ drop (h * w) words) g.words ∙ take-append-drop (h * w) words;
      past = g.past;
      floats_stay = g.floats_stay;
      ints_stay = g.ints_stay;
      says = g.says;
    }
