-- The vignette's table: the factors of one quarter of the frame, w / 2 + 1 to a line, at the front of the scratch. Assumes nothing.
use Rattle.std.proofs.Common.{◌≡◌, ℕ, ◌+◌, ◌-◌, ◌*◌, ◌/◌, ◌<◌, ◌≤◌, List, ◌++◌, length, get_or, take, drop, ap, ◌∙◌, mul-le-mul, arith, length-drop, length-take-le, get_or-drop, get_or-take, drop-drop}
use lib.ListN.{get_or-append}
use lib.Seq.{length_front, drop-append-add}
use lib.Ieee.{Float, nan}
use Rattle.passes.specs.Plain.Pixel.{dim}
use Rattle.num.specs.Laws.Rewrite.{length-rewrite}
use Rattle.num.specs.F32.{◌⊕◌}
use Rattle.num.specs.Root.{root_of}
use Rattle.passes.specs.Rows.{Frame, sampled}
use Rattle.passes.specs.Laws.Rows.{get_d_sampled, row_ends}
use Rattle.passes.specs.Plain.Vignette.{factor, offset_squared, factor_at}
use Rattle.passes.proofs.Mirror.{nearer, square_nearer}

-- how many words it has
abbrev words : ℕ → ℕ → ℕ
words w h = (h / 2 + 1) * (w / 2 + 1)

-- t holds the factor of column x and row y at their nearer places
pub record Table (w h : ℕ) (strength : Float) (t : List Float) : Type 0 where
  pub size : words w h ≤ length t
  pub holds : (x y : ℕ) → x < w → y < h → get_or t (nearer h y * (w / 2 + 1) + nearer w x) nan ≡ factor_at w h strength x y

-- ---- it fits into scratch as long as the frame, whose front is lent to be filled

module _ {w h : ℕ} {frame : List ℕ} (scratch : List Float) (pre : Frame w h frame × (0 < w) × (0 < h) × (length frame ≤ length scratch)) where
  -- a quarter is no more words than the frame
  pub quarter_in : words w h ≤ length frame
  quarter_in =
      let a : h / 2 + 1 ≤ h = omega arith in
      let b : w / 2 + 1 ≤ w = omega arith in
      omega (arith, pre.0.area, mul-le-mul a b)

  pub quarter_frame : Frame (w / 2 + 1) (h / 2 + 1) (take (words w h) scratch)
  quarter_frame = record {
    area = length-take-le (words w h) scratch (omega (arith, quarter_in));
    wide = omega (arith, pre.0.wide);
    high = omega (arith, pre.0.high);
  }

  -- the front comes back as `new`
  module _ (strength : Float) (new : List Float) (e : new ≡ sampled (w / 2 + 1) (factor_at w h strength) (take (words w h) scratch)) where
    new-length : length new ≡ length (take (words w h) scratch)
    new-length = ap length e ∙ length-rewrite _ _ _

    pub kept : length (new ++ drop (words w h) scratch) ≡ length scratch
    kept = length_front scratch new (words w h) new-length

    pub filled : Table w h strength (new ++ drop (words w h) scratch)
    filled = record {
      size = omega (arith, kept, quarter_in);
      holds = λ x y X Y.
          let v = w / 2 + 1 in
          let a : nearer w x < v = omega arith in
          let b : nearer h y < h / 2 + 1 = omega arith in
          get_or-append new (drop (words w h) scratch) nan (nearer h y * v + nearer w x)
          (omega (arith, new-length, quarter_frame.area, row_ends v (h / 2 + 1) (nearer h y) b))
          ∙ ap (λ (z : List Float). get_or z (nearer h y * v + nearer w x) nan) e
          ∙ get_d_sampled v (h / 2 + 1) (take (words w h) scratch) (factor_at w h strength) (nearer w x) (nearer h y) nan quarter_frame.area a b
          ∙ ap (λ (z : Float). factor strength (root_of (z ⊕ offset_squared h (nearer h y)))) (square_nearer w x pre.0.wide (omega arith))
          ∙ ap (λ (z : Float). factor strength (root_of (offset_squared w x ⊕ z))) (square_nearer h y pre.0.high (omega arith));
    }

    -- no word past the frame's count is written
    pub rest : drop (length frame) (new ++ drop (words w h) scratch) ≡ drop (length frame) scratch
    rest =
        let m = length frame - words w h in
        let a : length frame ≡ length new + m = omega (arith, quarter_in, new-length, quarter_frame.area) in
        let b : words w h + m ≡ length frame = omega (arith, quarter_in) in
        ap (λ (k : ℕ). drop k (new ++ drop (words w h) scratch)) a ∙ drop-append-add new (drop (words w h) scratch) m
        ∙ drop-drop m (words w h) scratch ∙ ap (λ (k : ℕ). drop k scratch) b

-- ---- row y of the frame is dimmed by line r of the table

-- the line, as it is lent
abbrev line : ℕ → ℕ → List Float → List Float
line w r t = take (r * (w / 2 + 1) + (w / 2 + 1) - r * (w / 2 + 1)) (drop (r * (w / 2 + 1)) t)

module _ {w h : ℕ} {strength : Float} {t : List Float} (table : Table w h strength t) {y r : ℕ} (l : y < h) (e : r ≡ nearer h y) where
  pub line_in : r * (w / 2 + 1) + (w / 2 + 1) ≤ length t
  line_in =
      let b : r < h / 2 + 1 = omega arith in
      omega (arith, row_ends (w / 2 + 1) (h / 2 + 1) r b, table.size)

  pub line-length : length (line w r t) ≡ w / 2 + 1
  line-length =
      let v = w / 2 + 1 in
      let n : r * v + v - r * v ≡ v = omega arith in
      length-take-le (r * v + v - r * v) (drop (r * v) t) (simp length-drop (omega (arith, line_in))) ∙ n

  -- a row of n words
  pub by-line : {n : ℕ} → n ≡ w → (x p : ℕ) → x < w → dim (get_or (line w r t) (nearer n x) nan) p ≡ dim (factor_at w h strength x y) p
  by-line {n} f x p X =
      let v = w / 2 + 1 in
      let a : nearer n x < r * v + v - r * v = omega arith in
      ap (λ (z : Float). dim z p)
      (get_or-take (r * v + v - r * v) (drop (r * v) t) (nearer n x) nan a ∙ get_or-drop (r * v) t (nearer n x) nan
      ∙ ap (λ (k : ℕ). get_or t (r * v + nearer k x) nan) f ∙ ap (λ (k : ℕ). get_or t (k * v + nearer w x) nan) e ∙ table.holds x y X l)
