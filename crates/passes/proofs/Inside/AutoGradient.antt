-- Gradient. The sum of i lumas is at most 1024 i, for i up to 2^20: above 2^24, but 1024 i is a value of binary32, and
-- no rounding passes it (`exact_sum`). Divided by the count and by 255, both at least 1, and clamped it is in 0..1, so
-- the adaptive strength is too. Warmth is in -3..3, the brightness factor at most 16, a channel at most 4134: finite,
-- then clamped to 0..255. Assumes nothing.
use Rattle.std.specs.Prelude.{◌≡◌, ℕ, suc, ◌+◌, ◌*◌, ◌<◌, ◌≤◌, T, List, [], ◌∷◌, length, Float}
use Rattle.std.proofs.Common.{sym, lit≤}
use Rattle.std.proofs.Math.Path.{subst}
use native.Mathlib.Omega.{arith}
use Rattle.std.specs.Float.Ieee.{of_bits}
use Rattle.num.specs.Const.{c0_30, c0_45, c14_0, c18_0, c255_0, c5_0}
use Rattle.num.specs.Laws.Sized.{Exact, exact_sum}
use Rattle.num.specs.Ranges.{within}
use Rattle.passes.specs.Arith.{Arith, Agrees, plain}
use Rattle.passes.specs.AutoGradient.{add_luma, adaptive, warm, fall, brightness, shade, shaded, auto_gradient}
use Rattle.passes.specs.Fold.{fold}
use Rattle.passes.proofs.Inside.Shared.{loose, unpacked, clamped_three, luma709_in, position_in}
use Rattle.passes.specs.Laws.Painted.{placed_same}
use Rattle.passes.specs.Laws.Range.{Has, signed, lit, lit⁺, lit_big, whole_big, wide, plus, plus_exact, minus, times}
use Rattle.passes.specs.Laws.Range.{over-one, negated, abs, times⁺}
use Rattle.passes.specs.Laws.Range.{zero⁺, one⁺, one_less, clamp_one}
use Rattle.passes.specs.Rows.{Frame}
use Rattle.passes.specs.Laws.Rows.{row_ends, frame_small}

module _ {A : Arith} (G : Agrees A) where
  summed : (n i : ℕ) (xs : List ℕ) → i + length xs ≡ n → n ≤ 1048576 → {a : A.F} {z : Float} → Has G (i * 1024) a z
      → Has G (n * 1024) (fold (add_luma A) a xs) (fold (add_luma plain) z xs)
  unfolding fold add_luma
  summed n i [] e l {a} {z} h = subst (λ (k : ℕ). Has G (k * 1024) a z) (let p : i + 0 ≡ n = e in omega arith) h
  summed n i (p ∷ xs) e l {a} {z} h =
      let f : i + suc (length xs) ≡ n = e in
      let one : i * 1024 + 1024 ≡ (i + 1) * 1024 = omega arith in
      let y = wide 1024 (luma709_in (loose (unpacked G p)) tt tt tt) tt in
      summed n (i + 1) xs (omega arith) l
      (subst (λ (k : ℕ). Has G k (add_luma A a p) (add_luma plain z p)) one
      (plus_exact h y (subst (λ (k : ℕ). Exact k) (sym one) (exact_sum (i + 1) (omega arith)))))

  pub auto_gradient_inside : (w h : ℕ) (strength vertical horizontal : Float) (frame : List ℕ) → Frame w h frame
      → T (within 1 strength) → T (within 1 vertical) → T (within 1 horizontal)
      → auto_gradient A w h (A.lit strength) (A.lit vertical) (A.lit horizontal) frame
      ≡ auto_gradient plain w h strength vertical horizontal frame
  unfolding auto_gradient shaded adaptive add_luma warm fall brightness shade within of_bits
  auto_gradient_inside w h strength vertical horizontal frame f s v t =
      placed_same _ _ _ _ frame w h _ _ f.area (λ x y p l m.
      let c = loose (unpacked G p) in
      let n = length frame in
      let small : n ≤ 1048576 = frame_small f in
      let some : 0 < n = omega (arith, row_ends w h y m) in
      let sum = summed n 0 frame (omega arith) small (signed zero⁺) in
      let mean =
      over-one (over-one sum (whole_big n some (omega arith)) (exact_sum n small)) (lit_big c255_0 tt (lit≤ tt))
      (exact_sum n small) in
      let a = times⁺ (lit⁺ 1 strength s) (one_less (times⁺ (clamp_one mean) (lit⁺ 1 c0_45 tt) tt)) tt in
      let warmth =
      times (times (negated (position_in G h y f.high m)) (signed (lit⁺ 1 vertical v)) tt) (signed a) tt in
      let less = times (times (abs (position_in G w x f.wide l)) (signed (lit⁺ 1 horizontal t)) tt) (signed a) tt in
      let bright = times (plus (signed one⁺) (times warmth (lit 1 c0_30 tt) tt) tt) (minus (signed one⁺) less tt) tt in
      clamped_three (plus (times c.red bright tt) (times warmth (lit 18 c18_0 tt) tt) tt)
      (plus (times c.green bright tt) (times warmth (lit 5 c5_0 tt) tt) tt)
      (minus (times c.blue bright tt) (times warmth (lit 14 c14_0 tt) tt) tt))
