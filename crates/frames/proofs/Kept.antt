-- A file that shows no picture is left as it was, and all else that is lent: a frame that the station takes is shown. Assumes nothing.
use Prim.Native.Nat.{ℕ, zero, suc, ◌*◌}
use mathlib.Core.Path.{◌≡◌, refl, sym, ap, ◌∙◌}
use mathlib.Core.List.{List}
use lib.Ieee.{Float}
use lib.ListN.{length, drop}
use Rattle.num.specs.Refusals.{unless}
use Rattle.num.specs.Laws.Refusals.{accepts}
use Rattle.raster.specs.Pixels.{unpacked}
use Rattle.raster.specs.Ppm.{Parsed, parse_of}
use Rattle.chain.specs.Calls as Calls
use Rattle.chain.specs.Calls.{Framed, stops, refusing_frame, shown_by, frame_reply_by}
use Rattle.cards.specs.declared.station.Station.{Station}
use Rattle.frames.specs.Frames.{Result, result, outcome_of, shown, among, replied, by_parsed, filtered_of}
use Rattle.frames.specs.Claims.{UnshownKeeps}
use Rattle.frames.specs.Outcome.{Shown, Refused}

length-unpacked : (n : ℕ) (bytes : List ℕ) → length (unpacked n bytes) ≡ n
unfolding unpacked
length-unpacked zero bytes = refl
length-unpacked (suc n) bytes = ap suc (length-unpacked n (drop 3 bytes))

module _ (w h : ℕ) (s : Station) (pixels past : List ℕ) (floats ints : ℕ) (curve : List Float) where
  abbrev words : List ℕ
  words = unpacked (h * w) pixels

  -- a frame that is not refused is shown
  pub is_shown : stops s w h (h * w) (length past) floats ints curve ≡ 0 → Calls.shown w h s words past curve ≡ replied w h s pixels past floats ints curve
  unfolding frame_reply_by
  is_shown e =
      let none : 0 ≡ stops s w h (length words) (length past) floats ints curve =
      sym (ap (λ (n : ℕ). stops s w h n (length past) floats ints curve) (length-unpacked (h * w) pixels) ∙ e) in
      accepts 0 (refusing_frame s words past) (Calls.shown w h s words past curve) none refl

pub unshown_keeps : UnshownKeeps
unfolding filtered_of unless shown_by
unshown_keeps s file words past floats ints curve = go (parse_of (length words) file)
  where
    asks : (w h start n : ℕ) → stops s w h (h * w) (length past) floats ints curve ≡ n →
        let r : Result = unless n (λ k. result (Refused k) s file words past)
        (among start (h * w) file words (shown w h (replied w h s (drop start file) past floats ints curve))) in
        ((clipped samples : ℕ) → r.outcome ≡ Shown clipped samples → ⊥) → r ≡ result r.outcome s file words past
    asks w h start zero e unshown = absurd (unshown _ _ (ap (λ (r : Framed). outcome_of r.answer) (sym (is_shown w h s (drop start file) past floats ints curve e))))
    asks w h start (suc n) e unshown = refl

    go : (p : Parsed) →
        let r : Result = by_parsed p s file words past floats ints curve in
        ((clipped samples : ℕ) → r.outcome ≡ Shown clipped samples → ⊥) → r ≡ result r.outcome s file words past
    go (Parsed.Refused k) unshown = refl
    go (Parsed.Frame w h start) unshown = asks w h start (stops s w h (h * w) (length past) floats ints curve) refl unshown
