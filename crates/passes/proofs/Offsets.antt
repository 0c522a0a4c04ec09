-- The blur's offsets: which places take a sample, and the sums one offset further; local lines. Assumes nothing.
use Rattle.std.proofs.Common.{◌≡◌, ℕ, zero, suc, ◌+◌, ◌-◌, ◌*◌, ◌<◌, ◌≤◌, Bool, true, false, ltb, leb, List, ◌++◌, length, take, drop, sym, refl, ap, ◌∙◌, add-zero, zero-add, add-suc, add-one, arith, lit≤, length-take-le, get_or-drop, get_or-take, ltb-true}
use native.Mathlib.Decide.{dec_lt}
use lib.Ieee.{Float, nan}
use Rattle.num.specs.Laws.Bools.{both}
use Rattle.num.specs.F32.{◌⊕◌, ◌⊗◌}
use Rattle.num.specs.Rewrite.{rewrite, every, fill}
use Rattle.num.specs.Laws.Rewrite.{Rewritten, none, length-rewrite, rewrite_ext, rewrite_same, rewrite-stop}
use Rattle.num.specs.Laws.Rewrite.{get_d_rewrite, get_d_fill, mid, part}
use Rattle.passes.specs as Text
use Rattle.passes.specs.Laws.Samples.{inside_yes, inside-left, inside_right}
use Rattle.passes.specs.declared.blur.Four.{Four}
use Rattle.passes.specs.Plain.Blur.{weight, distance, inside, taken, step, total, weight_sum, weighted}
use Rattle.passes.specs.Plain.Blur.{quotient, blur_at}
use Rattle.passes.specs.Private.{at, cell, blur_by, Begins, four_weights, onward}

-- a sample that is taken lies inside
inside-below : (n radius x k : ℕ) → inside n radius x k ≡ true → x + k - radius < n
inside-below n radius x k e = ltb-true (x + k - radius) n (both (leb radius (x + k)) (ltb (x + k - radius) n) e).1

taken_same : (b : Bool) {s s' v v' : Float} → s ≡ s' → (b ≡ true → v ≡ v') → taken b s v ≡ taken b s' v'
taken_same true p q = cc (q refl)
taken_same false p q = p

-- only the samples inside matter
total_same : (term term' : ℕ → Float → Float) (n radius x k : ℕ) → ((i : ℕ) (w : Float) → i < n → term i w ≡ term' i w)
    → total term n radius x k ≡ total term' n radius x k
unfolding Text.Blur.total
total_same term term' n radius x zero h = refl
total_same term term' n radius x (suc k) h =
    taken_same (inside n radius x k) (total_same term term' n radius x k h) (λ e. h (x + k - radius) _ (inside-below n radius x k e))

pub blur_same : (sums f g : ℕ → Float) (n radius x : ℕ) → ((i : ℕ) → i < n → f i ≡ g i) → blur_by sums f n radius x ≡ blur_by sums g n radius x
blur_same sums f g n radius x h =
    ap (λ (s : Float). quotient s (sums x)) (total_same _ _ n radius x (2 * radius + 1) (λ i w l. ap (λ (v : Float). v ⊗ w) (h i l)))

-- with the sums of weights that the definition has
pub blur_by_lem : (sums f : ℕ → Float) (n radius x : ℕ) → sums x ≡ weight_sum n radius x → blur_by sums f n radius x ≡ blur_at f n radius x
blur_by_lem sums f n radius x e = ap (quotient (weighted f n radius x)) e

pub total_more : (term : ℕ → Float → Float) (n radius x k : ℕ) → total term n radius x (k + 1) ≡ step term n radius x k (total term n radius x k)
unfolding Text.Blur.total
total_more term n radius x k = rw add-one

-- m offsets more
pub total-onward : (term : ℕ → Float → Float) (n radius x k m : ℕ) → onward term n radius x k m (total term n radius x k) ≡ total term n radius x (k + m)
unfolding Text.Blur.total onward
total-onward term n radius x k zero = ap (total term n radius x) (sym (add-zero k))
total-onward term n radius x k (suc m) = ap (step term n radius x (k + m)) (total-onward term n radius x k m) ∙ ap (total term n radius x) (sym (add-suc k m))

-- four offsets one after another
pub onward-four : (term : ℕ → Float → Float) (n radius x k : ℕ) (sum : Float) {one two three four : Float} → one ≡ step term n radius x k sum → two ≡ step term n radius x (k + 1) one
    → three ≡ step term n radius x (k + 2) two → four ≡ step term n radius x (k + 3) three → four ≡ onward term n radius x k 4 sum
unfolding onward
onward-four term n radius x k sum a b c d =
    let at : ℕ → Float → Float = step term n radius x in
    d ∙ ap (at (k + 3)) (c ∙ ap (at (k + 2)) (b ∙ ap (at (k + 1)) (a ∙ ap (λ (j : ℕ). at j sum) (sym (add-zero k)))))

-- ---- offset k along a line

module _ (acc src : List Float) (radius k : ℕ) (e : length acc ≡ length src) where
  abbrev along : ℕ → Float → Float
  along x = step (λ i w. at src i ⊗ w) (length src) radius x k

  -- outside at every place
  pub offset_none : length src ≤ distance radius k → acc ≡ every along acc
  offset_none h = sym (rewrite_same (length acc) along acc (λ x v l. outside x v l (dec_lt (x + k) radius)))
    where
      outside : (x : ℕ) (v : Float) → x < length acc → Dec (x + k < radius) → along x v ≡ v
      outside x v l (yes p) = simp (inside-left (length src) radius x k p)
      outside x v l (no p) = simp (inside_right (length src) radius x k (omega arith))

  -- m places, from `to` on, take the samples from `from` on
  pub offset-some : (new : List Float) (to from m m' : ℕ) (w : Float)
      → to ≡ radius - k → from ≡ k - radius → to + from + m ≡ length src → m' ≡ m → w ≡ weight radius (distance radius k)
      → new ≡ every (λ i v. v ⊕ at (take m' (drop from src)) i ⊗ w) (take m (drop to acc))
      → take to acc ++ (new ++ drop m (drop to acc)) ≡ every along acc
  offset-some new to from m m' w eto efrom em em' ew h =
      let sample : (i : ℕ) → i < m → at (take m' (drop from src)) i ≡ at src (to + i + k - radius)
      = λ i l. get_or-take m' (drop from src) i nan (omega arith) ∙ get_or-drop from src i nan ∙ ap (at src) (omega arith) in
      mid along (λ i v. v ⊕ at (take m' (drop from src)) i ⊗ w) acc new to m from (omega arith)
      (λ i v l. simp (inside-left (length src) radius i k (omega arith)))
      (λ i v l. simp (sample i l, ew, inside_yes (length src) radius (to + i) k (omega arith) (omega arith)))
      (λ i v l. simp (inside_right (length src) radius (to + m + i) k (omega arith)))
      h

  pub offset-onward : every along acc ≡ every (λ x. onward (λ i w. at src i ⊗ w) (length src) radius x k 1) acc
  unfolding onward
  offset-onward = ap (λ (j : ℕ). every (λ x. step (λ i w. at src i ⊗ w) (length src) radius x j) acc) (sym (add-zero k))

-- ---- four offsets along a line

module _ (src : List Float) (radius : ℕ) where
  -- the sample at offset k of place x, which is inside, times the weight
  line_step : (k x m from i : ℕ) (row : List Float) (w v : Float) → radius ≤ x + k → x + k - radius < length src → from + i ≡ x + k - radius → i < m
      → row ≡ take m (drop from src) → w ≡ weight radius (distance radius k) → v ⊕ at row i ⊗ w ≡ step (λ j w. at src j ⊗ w) (length src) radius x k v
  line_step k x m from i row w v p q ei l er ew =
      simp (ew, inside_yes (length src) radius x k p q)
      (ap (λ (s : Float). v ⊕ s ⊗ weight radius (distance radius k)) (ap (λ (z : List Float). at z i) er ∙ get_or-take m (drop from src) i nan l ∙ get_or-drop from src i nan ∙ ap (at src) ei))

  -- part of a line where all four are inside
  pub line-four : (part : List Float) (start k from : ℕ) (a b c d : List Float) (w : Four) → radius ≤ start + k → start + length part + k + 3 ≤ length src + radius
      → from ≡ start + k - radius
      → a ≡ take (length part) (drop from src) → b ≡ take (length part) (drop (from + 1) src) → c ≡ take (length part) (drop (from + 2) src) → d ≡ take (length part) (drop (from + 3) src)
      → w ≡ four_weights radius k
      → every (λ i v. v ⊕ at a i ⊗ w.a ⊕ at b i ⊗ w.b ⊕ at c i ⊗ w.c ⊕ at d i ⊗ w.d) part ≡ every (λ i. onward (λ j w. at src j ⊗ w) (length src) radius (start + i) k 4) part
  line-four part start k from a b c d w p q ei ea eb ec ed ew =
      let m = length part in
      rewrite_ext m (λ i v. v ⊕ at a i ⊗ w.a ⊕ at b i ⊗ w.b ⊕ at c i ⊗ w.c ⊕ at d i ⊗ w.d) (λ i. onward (λ j w. at src j ⊗ w) (length src) radius (start + i) k 4) part
      (λ i v l. onward-four (λ j w. at src j ⊗ w) (length src) radius (start + i) k v
      (line_step k (start + i) m from i a w.a v (omega arith) (omega arith) (omega arith) l ea (ap (λ (f : Four). f.a) ew))
      (line_step (k + 1) (start + i) m (from + 1) i b w.b _ (omega arith) (omega arith) (omega arith) l eb (ap (λ (f : Four). f.b) ew))
      (line_step (k + 2) (start + i) m (from + 2) i c w.c _ (omega arith) (omega arith) (omega arith) l ec (ap (λ (f : Four). f.c) ew))
      (line_step (k + 3) (start + i) m (from + 3) i d w.d _ (omega arith) (omega arith) (omega arith) l ed (ap (λ (f : Four). f.d) ew)))

-- the whole line: an edge, the middle, an edge
module _ (acc src : List Float) (radius k : ℕ) (e : length acc ≡ length src) where
  abbrev fourfold : ℕ → Float → Float
  fourfold x = onward (λ i w. at src i ⊗ w) (length src) radius x k 4

  none_left : (x : ℕ) (v : Float) → x + k + 3 < radius → fourfold x v ≡ v
  none_left x v h =
      let out : (j : ℕ) → j ≤ 3 → (s : Float) → s ≡ step (λ i w. at src i ⊗ w) (length src) radius x (k + j) s = λ j l s. simp (inside-left (length src) radius x (k + j) (omega arith)) in
      sym (onward-four (λ i w. at src i ⊗ w) (length src) radius x k v (simp (inside-left (length src) radius x k (omega arith))) (out 1 (lit≤ tt) v) (out 2 (lit≤ tt) v) (out 3 (lit≤ tt) v))

  none_right : (x : ℕ) (v : Float) → length src ≤ x + k - radius → fourfold x v ≡ v
  none_right x v h =
      let out : (j : ℕ) → (s : Float) → s ≡ step (λ i w. at src i ⊗ w) (length src) radius x (k + j) s = λ j s. simp (inside_right (length src) radius x (k + j) (omega arith)) in
      sym (onward-four (λ i w. at src i ⊗ w) (length src) radius x k v (simp (inside_right (length src) radius x k h)) (out 1 v) (out 2 v) (out 3 v))

  pub fourfold_none : (first : ℕ) → first ≡ radius - (k + 3) → first ≤ length src → Rewritten first fourfold acc acc
  fourfold_none first ef l = record { within = omega arith; kept = refl; done = sym (rewrite_same first fourfold acc (λ x v h. none_left x v (omega arith))) }

  pub fourfold_all : (last : ℕ) {ys : List Float} → last ≡ length src - (k - radius) → Rewritten last fourfold acc ys → ys ≡ every fourfold acc
  fourfold_all last {ys} el t =
      let whole : last + (length acc - last) ≡ length acc = omega (arith, t.within) in
      t.done ∙ rewrite-stop last (length acc - last) fourfold acc (λ x v h. none_right (last + x) v (omega arith)) ∙ ap (λ (n : ℕ). rewrite n fourfold acc) whole

-- ---- offset k of row y along the columns of a plane

module _ (acc plane : List Float) (h radius y : ℕ) where
  abbrev below : ℕ → ℕ → Float → Float
  below k x = step (λ i w. cell plane (length acc) x i ⊗ w) h radius y k

  pub row_skipped : (k : ℕ) → inside h radius y k ≡ false → acc ≡ every (below k) acc
  row_skipped k e = sym (rewrite_same (length acc) (below k) acc (λ x v l. simp e))

  -- the row i of the plane, which is that at offset k, times the weight
  row_step : (k i : ℕ) (row : List Float) (w : Float) → radius ≤ y + k → y + k - radius < h → i ≡ y + k - radius
      → row ≡ take (length acc) (drop (i * length acc) plane) → w ≡ weight radius (distance radius k)
      → (x : ℕ) (v : Float) → x < length acc → v ⊕ at row x ⊗ w ≡ below k x v
  row_step k i row w p q ei er ew x v l =
      let n = length acc in
      simp (ew, inside_yes h radius y k p q)
      (ap (λ (s : Float). v ⊕ s ⊗ weight radius (distance radius k)) (ap (λ (z : List Float). at z x) er ∙ get_or-take n (drop (i * n) plane) x nan l ∙ get_or-drop (i * n) plane x nan ∙ ap (λ (j : ℕ). cell plane n x j) ei))

  pub row_added : (k : ℕ) (row : List Float) (w : Float) → radius ≤ y + k → y + k - radius < h
      → row ≡ take (length acc) (drop ((y + k - radius) * length acc) plane) → w ≡ weight radius (distance radius k)
      → every (λ i v. v ⊕ at row i ⊗ w) acc ≡ every (below k) acc
  row_added k row w p q er ew = rewrite_ext (length acc) (λ i v. v ⊕ at row i ⊗ w) (below k) acc (row_step k (y + k - radius) row w p q refl er ew)

  pub row_onward : (k : ℕ) → every (below k) acc ≡ every (λ x. onward (λ i w. cell plane (length acc) x i ⊗ w) h radius y k 1) acc
  unfolding onward
  row_onward k = ap (λ (j : ℕ). every (below j) acc) (sym (add-zero k))

  -- four rows, from offset k on
  pub four_added_lem : (k i : ℕ) (a b c d : List Float) (w : Four) → radius ≤ y + k → y + k + 3 < h + radius → i ≡ y + k - radius
      → a ≡ take (length acc) (drop (i * length acc) plane) → b ≡ take (length acc) (drop ((i + 1) * length acc) plane)
      → c ≡ take (length acc) (drop ((i + 2) * length acc) plane) → d ≡ take (length acc) (drop ((i + 3) * length acc) plane)
      → w ≡ four_weights radius k
      → every (λ i v. v ⊕ at a i ⊗ w.a ⊕ at b i ⊗ w.b ⊕ at c i ⊗ w.c ⊕ at d i ⊗ w.d) acc ≡ every (λ x. onward (λ i w. cell plane (length acc) x i ⊗ w) h radius y k 4) acc
  four_added_lem k i a b c d w p q ei ea eb ec ed ew =
      rewrite_ext (length acc) (λ i v. v ⊕ at a i ⊗ w.a ⊕ at b i ⊗ w.b ⊕ at c i ⊗ w.c ⊕ at d i ⊗ w.d) (λ x. onward (λ i w. cell plane (length acc) x i ⊗ w) h radius y k 4) acc
      (λ x v l. onward-four (λ i w. cell plane (length acc) x i ⊗ w) h radius y k v
      (row_step k i a w.a p (omega arith) ei ea (ap (λ (f : Four). f.a) ew) x v l) (row_step (k + 1) (i + 1) b w.b (omega arith) (omega arith) (omega arith) eb (ap (λ (f : Four). f.b) ew) x _ l)
      (row_step (k + 2) (i + 2) c w.c (omega arith) (omega arith) (omega arith) ec (ap (λ (f : Four). f.c) ew) x _ l) (row_step (k + 3) (i + 3) d w.d (omega arith) (omega arith) (omega arith) ed (ap (λ (f : Four). f.d) ew) x _ l))

-- ---- lines

-- the front of a local line
pub front : (line : List Float) (n w : ℕ) → length line ≡ n → w ≤ n → length (take w line) ≡ w
front line n w e h = length-take-le w line (omega arith)

-- n places that were filled by f
begun : {places n x : ℕ} {f : ℕ → Float} {before line : List Float} → length before ≡ places → n ≤ places → n ≤ x → Rewritten x (λ k v. f k) before line
    → Begins places n f line
begun {places} {n} {x} {f} {before} e l h t = record {
  long = t.kept ∙ e;
  value = λ k m. ap (λ (z : List Float). at z k) t.done ∙ get_d_rewrite x (λ k v. f k) before k nan (omega arith) (omega arith);
}

-- a line whose front was lent and came back filled
pub begins : {places : ℕ} {f : ℕ → Float} {new : List Float} (line : List Float) (n : ℕ) → length line ≡ places → n ≤ places → new ≡ fill f (take n line)
    → Begins places n f (new ++ drop n line)
begins line n e l h = begun e l (omega arith) (part n _ _ (none _ _) (omega arith) (λ x v l. rw zero-add) h)

-- its sums of weights, where they are lent
pub weight-at : (line : List Float) (n radius x : ℕ) → Begins 1024 n (weight_sum n radius) line → x < n → at (take n line) x ≡ weight_sum n radius x
weight-at line n radius x t l = get_or-take n line x nan l ∙ t.value x l

-- a line that was filled by f, blurred: at one place, as a line, and read from that line
module _ (sums f : ℕ → Float) (n radius : ℕ) (line₀ line : List Float) (el : length line₀ ≡ n) (e : line ≡ fill f line₀) where
  blur_at_lem : (x : ℕ) → blur_by sums (at line) (length line) radius x ≡ blur_by sums f n radius x
  blur_at_lem x =
      ap (λ (m : ℕ). blur_by sums (at line) m radius x) (ap length e ∙ length-rewrite (length line₀) (λ i v. f i) line₀ ∙ el)
      ∙ blur_same sums (at line) f n radius x (λ i p. ap (λ (z : List Float). at z i) e ∙ get_d_fill f line₀ i nan (omega arith))

  pub blur_fill : (out₀ : List Float) → fill (blur_by sums (at line) (length line) radius) out₀ ≡ fill (blur_by sums f n radius) out₀
  blur_fill out₀ = rewrite_ext (length out₀) (λ x v. blur_by sums (at line) (length line) radius x) (λ x v. blur_by sums f n radius x) out₀ (λ x v l. blur_at_lem x)

  pub blur_of : (out₀ out : List Float) → length out₀ ≡ n → out ≡ fill (blur_by sums (at line) (length line) radius) out₀ → (x : ℕ) → x < n
      → at out x ≡ blur_by sums f n radius x
  blur_of out₀ out eo o x l =
      ap (λ (z : List Float). at z x) o ∙ get_d_fill (blur_by sums (at line) (length line) radius) out₀ x nan (omega arith) ∙ blur_at_lem x
