-- Laws of painted frames: which colours make equal ones, and that no pass clips more than three channels a word. Assumes
-- nothing.
use Rattle.std.specs.Prelude.{◌≡◌, ℕ, ◌*◌, ◌/◌, ◌%◌, ◌<◌, ◌≤◌, Bool, true, false, cond, List, length, slice_index, Float}
use native.Mathlib.Omega.{arith}
use Rattle.std.proofs.Common.{ap}
use Rattle.std.proofs.Math.Path.{ap₂}
use Rattle.num.specs.Const.{c0_0, c1_0, c255_0}
use Rattle.num.specs.Laws.Rewrite.{rewrite_ext, length-rewrite}
use Rattle.num.specs.Laws.Sums.{sum_ext, sum_bound}
use Rattle.passes.specs.Arith.{Arith}
use Rattle.passes.specs.Pixel.{pack_clamped, pack_unit, clip, clips}
use Rattle.passes.specs.Rows.{placed}
use Rattle.passes.specs.Laws.Rows.{place_in}
use Rattle.passes.specs.Painted.{Painted, painted, converted, from_clamped, from_unit}

-- as many words as the frame, and no more than three clipped channels for each
pub record Paints (frame : List ℕ) (x : Painted) : Type 0 where
  pub long : length x.words ≡ length frame
  pub few : x.clipped ≤ 3 * length frame

module _ {C D : Type 0} (pack count : C → ℕ) (pack' count' : D → ℕ) (frame : List ℕ) where
  -- two conversions of colours of which they make the same
  pub converted_same : (colour : ℕ → ℕ → C) (other : ℕ → ℕ → D)
      → ((i p : ℕ) → i < length frame → (pack (colour i p) ≡ pack' (other i p)) × (count (colour i p) ≡ count' (other i p)))
      → converted pack count colour frame ≡ converted pack' count' other frame
  unfolding converted
  converted_same colour other same =
      ap₂ painted (rewrite_ext (length frame) _ _ frame (λ i p l. (same i p l).0))
      (sum_ext (length frame) _ _ (λ i l. (same i (slice_index frame i) l).1))

  -- by column and row
  pub placed_same : (w h : ℕ) (colour : ℕ → ℕ → ℕ → C) (other : ℕ → ℕ → ℕ → D) → length frame ≡ h * w
      → ((x y p : ℕ) → x < w → y < h
      → (pack (colour x y p) ≡ pack' (other x y p)) × (count (colour x y p) ≡ count' (other x y p)))
      → converted pack count (placed w colour) frame ≡ converted pack' count' (placed w other) frame
  placed_same w h colour other s same =
      converted_same (placed w colour) (placed w other)
      (λ i p l. let q = place_in w h i (omega arith) in same (i % w) (i / w) p q.0 q.1)

module _ {C : Type 0} (pack count : C → ℕ) (frame : List ℕ) where
  pub converted_ext : (colour other : ℕ → ℕ → C) → ((i p : ℕ) → i < length frame → colour i p ≡ other i p)
      → converted pack count colour frame ≡ converted pack count other frame
  converted_ext colour other h =
      converted_same pack count pack count frame colour other (λ i p l. (ap pack (h i p l), ap count (h i p l)))

  converted_paints : (colour : ℕ → ℕ → C) → ((c : C) → count c ≤ 3) → Paints frame (converted pack count colour frame)
  unfolding converted
  converted_paints colour few =
      record {
        long = length-rewrite (length frame) _ frame;
        few = omega (arith, sum_bound (length frame) 3 _ (λ i. few (colour i (slice_index frame i))));
      }

module _ (A : Arith) where
  pub clip-few : (top : Float) (x : A.F) → clip A top x ≤ 1
  unfolding clip
  clip-few top x = either (A.below x (A.lit c0_0)) (A.below (A.lit top) x)
    where
      either : (p q : Bool) → cond p 1 (cond q 1 0) ≤ 1
      either true q = omega arith
      either false true = omega arith
      either false false = omega arith

  clips-few : (top : Float) (c : A.Rgb) → clips A top c ≤ 3
  unfolding clips
  clips-few top c = omega (arith, clip-few top (A.red c), clip-few top (A.green c), clip-few top (A.blue c))

  pub clamped_paints : (colour : ℕ → ℕ → A.Rgb) (frame : List ℕ) → Paints frame (from_clamped A colour frame)
  clamped_paints colour frame = converted_paints (pack_clamped A) (clips A c255_0) frame colour (clips-few c255_0)

  pub unit_paints : (colour : ℕ → ℕ → A.Rgb) (frame : List ℕ) → Paints frame (from_unit A colour frame)
  unit_paints colour frame = converted_paints (pack_unit A) (clips A c1_0) frame colour (clips-few c1_0)
