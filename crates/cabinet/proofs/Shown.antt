-- The cabinet's frame, from what its checks and the station's call promise. Assumes nothing.
use Prim.Native.Nat.{ℕ, ◌*◌}
use mathlib.Core.List.{List, ◌++◌}
use mathlib.Core.Path.{◌≡◌, refl, ap, ◌∙◌}
use lib.Ieee.{Float}
use lib.ListN.{length, take, drop}
use Rattle.num.specs.Laws.Refusals.{refuses, accepts, number-some}
use Rattle.passes.specs.Rows.{sampled}
use Rattle.cards.specs.declared.station.Station.{Station}
use Rattle.chain.specs.Answers.{Applies}
use Rattle.chain.specs.Calls.{stops, refusing_frame, frame_reply}
use Rattle.num.specs.Refusals.{number_of}
use Rattle.num.specs.declared.refusal.Refusal.{Refusal}
use Rattle.passes.specs.declared.blur.Counts.{Counts}
use Rattle.std.specs.Prelude.{Result, Err}
use Rattle.cabinet.specs.Source.{source_stops, enlarged_at, enlarged}
use Rattle.cabinet.specs.Cabinet.{cabinet_reply}
use Rattle.cabinet.specs.Promises.{Shows}

module _ (w h : ℕ) (picture colours : List ℕ) (s : Station) (words past : List ℕ) (floats : List Float) (ints : List ℕ) (curve : List Float) where
  abbrev Left : Result Counts Refusal → Station → (words' past' : List ℕ) (floats' : List Float) (ints' : List ℕ) → Type 0
  Left = Shows w h picture colours s words past floats ints curve

  -- nothing changes
  kept : (k : Refusal) → refusing_frame s words past (number_of k) ≡ cabinet_reply w h picture colours s words past (length floats) (length ints) curve
      → Left (Err k) s words past floats ints
  kept k e = record { replies = e; floats_stay = refl; ints_stay = refl }

  -- the source is refused
  pub bad_source_lem : (k : Refusal) → number_of k ≡ source_stops w h (length picture) (length colours) → Left (Err k) s words past floats ints
  unfolding cabinet_reply
  bad_source_lem k asks = kept k (refuses (number_of k) (refusing_frame s words past) _ asks (number-some k))

  module _ (good : 0 ≡ source_stops w h (length picture) (length colours)) where
    -- the station refuses the enlarged size
    pub refused : (k : Refusal) → number_of k ≡ stops s (3 * w) (3 * h) (length words) (length past) (length floats) (length ints) curve → Left (Err k) s words past floats ints
    unfolding cabinet_reply
    refused k asks = kept k (refuses (number_of k) (refusing_frame s words past) _ asks (number-some k) ∙ accepts 0 (refusing_frame s words past) _ good refl)

    -- the chain ran on the enlarged frame
    pub shown : 0 ≡ stops s (3 * w) (3 * h) (length words) (length past) (length floats) (length ints) curve → (given : List ℕ) → given ≡ enlarged w h picture colours words
        → (r : Result Counts Refusal) (s' : Station) (words' past' : List ℕ) (floats' : List Float) (ints' : List ℕ)
        → Applies (3 * w) (3 * h) s given past floats ints curve r s' words' past' floats' ints' → Left r s' words' past' floats' ints'
    unfolding cabinet_reply
    shown asks given e r s' words' past' floats' ints' a = record {
      replies =
          a.replies ∙ ap (λ (g : List ℕ). frame_reply (3 * w) (3 * h) s g past (length floats) (length ints) curve) e
          ∙ accepts 0 (refusing_frame s words past) _ asks refl ∙ accepts 0 (refusing_frame s words past) _ good refl;
      floats_stay = a.floats_stay;
      ints_stay = a.ints_stay;
    }

  -- what was written is the enlarged frame
  pub written : (out : List ℕ) → out ≡ sampled (3 * w) (enlarged_at w picture colours) (take (3 * h * (3 * w)) words)
      → out ++ drop (3 * h * (3 * w)) words ≡ enlarged w h picture colours words
  unfolding enlarged
  written out e = ap (λ (l : List ℕ). l ++ drop (3 * h * (3 * w)) words) e
