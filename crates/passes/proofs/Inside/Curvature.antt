-- Curvature. A place k of n is k / (n - 1) in 0..1, its position in -3..3, r2 at most 18, the distortion at most 19,
-- and a bent coordinate in -57..57: finite. Where it is not outside -1..1, (x + 1) / 2 * (n - 1) is in 0..n - 1 (num's
-- `index_within`), so what is rounded is finite, what is cut is at most 1023, and column and row are in the frame.
-- Assumes nothing.
use Rattle.std.specs.Prelude.{◌≡◌, ℕ, ◌+◌, ◌-◌, ◌*◌, ◌<◌, ◌≤◌, Bool, true, false, cond, ◌||◌, T, List, slice_index, Float}
use Rattle.std.proofs.Math.Path.{refl}
use Rattle.std.proofs.Common.{arith, lit≤}
use Rattle.std.specs.Float.Ieee.{lt, neg, of_bits}
use Rattle.num.specs.Laws.Bounds.{widen, round-step-within}
use Rattle.num.specs.Const.{c0_5, c1_0}
use Rattle.num.specs.F32.{◌⊕◌, ◌⊗◌, whole}
use Rattle.num.specs.Index.{index_of}
use Rattle.num.specs.Laws.Index.{index_within, index_lt}
use Rattle.num.specs.Laws.Sized.{sized-number}
use Rattle.num.specs.Steps.{round_of}
use Rattle.num.specs.Ranges.{within}
use Rattle.passes.specs.Arith.{Arith, Agrees, plain}
use Rattle.passes.specs.Curvature as Curvature
use Rattle.num.specs.Laws.Bools.{neither}
use Rattle.passes.proofs.Inside.Shared.{position_in}
use Rattle.passes.specs.Laws.Range.{Has, signed, lit, lit⁺, whole⁺, plus, times, negated, round, one⁺}
use Rattle.passes.specs.Rows.{Frame}
use Rattle.passes.specs.Laws.Rows.{placed_ext, row_ends}

index_there : (n : ℕ) (x : Float) → 0 < n → n ≤ 1024 → Curvature.outside plain x ≡ false → index_of n x < n
unfolding Curvature.outside
index_there n x p l e = let o = neither (lt x (neg c1_0)) (lt c1_0 x) e in index_lt n x p l o.0 o.1

module _ {A : Arith} (G : Agrees A) where
  outside_same : {n : ℕ} {a : A.F} {x : Float} → Has G n a x → Curvature.outside A a ≡ Curvature.outside plain x
  unfolding Curvature.outside
  outside_same {n} {a} {x} h =
      let one = signed {G = G} one⁺ in
      rw (G.below h.is (negated one).is, G.below one.is h.is)

  -- the row or column of a coordinate that is not outside
  index_in : (n : ℕ) {a : A.F} {x : Float} → n ≤ 1024 → Has G 57 a x → Curvature.outside plain x ≡ false
      → Curvature.index_of A n a ≡ index_of n x
  unfolding Curvature.outside of_bits
  index_in n {a} {x} l h e =
      let y =
      times (times (plus h (signed one⁺) tt) (lit 1 c0_5 tt) tt)
      (signed (whole⁺ 1023 (n - 1) (omega arith) (lit≤ tt))) tt in
      let o = neither (lt x (neg c1_0)) (lt c1_0 x) e in
      let i = index_within n x l (sized-number 57 x h.size) o.0 o.1 in
      let v = (x ⊕ c1_0) ⊗ c0_5 ⊗ whole (n - 1) in
      G.cut (round y tt).is
      (widen (n - 1) 1023 (round_of v) (omega arith) (round-step-within (n - 1) v (omega arith) i))

  sample_same : (w h : ℕ) (frame : List ℕ) {a b : A.F} {x y : Float} → 0 < w → 0 < h → Frame w h frame → Has G 57 a x
      → Has G 57 b y
      → Curvature.sample A w h frame a b ≡ Curvature.sample plain w h frame x y
  unfolding Curvature.sample
  sample_same w h frame {a} {b} {x} {y} W H f p q =
      rw (outside_same p, outside_same q) (go (Curvature.outside plain x) (Curvature.outside plain y) refl refl)
    where
      go : (u v : Bool) → Curvature.outside plain x ≡ u → Curvature.outside plain y ≡ v
          → cond (u || v) 0 (A.cell w frame (Curvature.index_of A w a) (Curvature.index_of A h b))
          ≡ cond (u || v) 0 (slice_index frame (index_of h y * w + index_of w x))
      go true v e d = refl
      go false true e d = refl
      go false false e d =
          let column = index_there w x W f.wide e in
          let row = row_ends w h (index_of h y) (index_there h y H f.high d) in
          let long = f.area in
          rw (index_in w f.wide p e, index_in h f.high q d)
          (G.cell w frame (index_of w x) (index_of h y) column (omega arith))

  pub curvature-inside : (w h : ℕ) (amount : Float) (frame : List ℕ) → Frame w h frame → T (within 1 amount)
      → Curvature.curvature A w h (A.lit amount) frame ≡ Curvature.curvature plain w h amount frame
  unfolding Curvature.curvature Curvature.bend
  curvature-inside w h amount frame f s =
      placed_ext w h frame _ _ f.area (λ x y p l m.
      let nx = position_in G w x f.wide l in
      let ny = position_in G h y f.high m in
      let distortion =
      plus (signed one⁺) (times (signed (lit⁺ 1 amount s)) (plus (times nx nx tt) (times ny ny tt) tt) tt) tt in
      sample_same w h frame (omega arith) (omega arith) f (times nx distortion tt) (times ny distortion tt))
