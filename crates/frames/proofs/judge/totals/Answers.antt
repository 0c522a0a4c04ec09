-- `frames::judge::totals` meets its contract: a frame that is taken lies whole in the file, and its words in the scratch. Assumes nothing.
use Prim.Native.Nat.{ℕ, ◌*◌}
use mathlib.Core.List.{List, ◌++◌}
use mathlib.Core.Path.{◌≡◌, ap, ◌∙◌}
use lib.ListN.{length, drop}
use Rattle.raster.specs.Ppm.{Parsed, parse_of}
use Rattle.frames.specs.Judge.{Judged, measured_of, among, by_frame, in_file}
use Rattle.frames.proofs.Parts.{pixels}
use Rattle.frames.proofs.judge.totals.Goals as goal

module _ (words file areas result : List ℕ) where
  by-parsed : {p : Parsed} → p ≡ parse_of (length words) file → by_frame p words file areas result ≡ in_file words file areas result
  unfolding in_file
  by-parsed e = ap (λ (q : Parsed). by_frame q words file areas result) e

  measured : {w h start : ℕ} {pixels : List ℕ} {r : Judged} {words' result' : List ℕ} → Parsed.Frame w h start ≡ parse_of (length words) file → pixels ≡ drop start file
      → (r, words', result') ≡ measured_of w h pixels areas result → (r, words' ++ drop (h * w) words, result') ≡ in_file words file areas result
  measured {w} {h} e part g =
      ap (among (h * w) words) g ∙ ap (λ (xs : List ℕ). among (h * w) words (measured_of w h xs areas result)) part ∙ by-parsed e

pub returns : goal.returns
returns c = measured _ _ _ _ c.in_ok-width.ensures (pixels _ _ c.in_ok-width.ensures) c.measure.ensures
