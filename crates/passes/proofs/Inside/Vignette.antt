-- Vignette. The middle c = n / 2 is in 1/2..1024, so k - c is in -1024..1024 (the difference of two from 0 to 1024) and
-- (k - c) / c in -2048..2048. Its square is at most 2^22 and has the sign +, the sum of two at most 2^23 with the sign
-- +: the root's operand is finite, not below 0 and not -0. The root is at most 2^13, times the strength too; the
-- minimum's second operand is 1. So the factor is in 0..1. Assumes nothing.
use Rattle.std.specs.Prelude.{◌≡◌, ℕ, ◌<◌, ◌≤◌, false, T, List, Float}
use Rattle.std.proofs.Common.{arith, lit≤}
use Rattle.std.specs.Float.Ieee.{of_bits}
use Rattle.num.specs.Const.{c2_0}
use Rattle.num.specs.F32.{◌⊘◌, whole}
use Rattle.num.specs.Laws.Least.{half_least}
use Rattle.num.specs.Laws.Sized.{exact}
use Rattle.num.specs.Laws.Squares.{plus_signed, square_signed}
use Rattle.num.specs.Ranges.{within, Signed}
use Rattle.passes.specs.Arith.{Arith, Agrees, plain}
use Rattle.passes.proofs.Inside.Shared.{dimmed}
use Rattle.passes.specs.Laws.Range.{Has, Plus, signed, lit⁺, lit_big, whole⁺, difference, over, plus⁺, times⁺, over⁺}
use Rattle.passes.specs.Laws.Range.{square⁺, root⁺, least_one, one_less}
use Rattle.passes.specs.Rows.{Frame}
use Rattle.passes.specs.Laws.Rows.{placed_ext}
use Rattle.passes.specs.Vignette.{offset_squared, factor, vignette}

-- how far k is from the middle of n, in halves of n
abbrev apart : (B : Arith) → ℕ → ℕ → B.F
apart B n k = B.◌⊘◌ (B.◌⊖◌ (B.whole k) (B.◌⊘◌ (B.whole n) (B.lit c2_0))) (B.◌⊘◌ (B.whole n) (B.lit c2_0))

module _ {A : Arith} (G : Agrees A) where
  apart_in : (n k : ℕ) → n ≤ 1024 → k < n → Has G 2048 (apart A n k) (apart plain n k)
  unfolding of_bits
  apart_in n k l m =
      let c : Plus G 1024 (A.◌⊘◌ (A.whole n) (A.lit c2_0)) (whole n ⊘ c2_0) =
      over⁺ (whole⁺ 1024 n l (lit≤ tt)) (lit_big c2_0 tt (lit≤ tt)) tt in
      over (difference (whole⁺ 1024 k (omega arith) (lit≤ tt)) c tt)
      (record { is = c.is; least = half_least n (omega arith) (omega arith) }) (exact 2048 (lit≤ tt))

  square_in : (n k : ℕ) → n ≤ 1024 → k < n → Plus G 4194304 (offset_squared A n k) (offset_squared plain n k)
  unfolding offset_squared
  square_in n k l m = square⁺ (apart_in n k l m) tt

  square_plus : (n k : ℕ) → n ≤ 1024 → k < n → Signed false (offset_squared plain n k)
  unfolding offset_squared
  square_plus n k l m = square_signed 2048 (apart plain n k) (apart_in n k l m).size

  pub vignette-inside : (w h : ℕ) (strength : Float) (frame : List ℕ) → Frame w h frame → T (within 1 strength)
      → vignette A w h (A.lit strength) frame ≡ vignette plain w h strength frame
  unfolding vignette factor
  vignette-inside w h strength frame f s =
      placed_ext w h frame _ _ f.area (λ x y p l m.
      let a = square_in w x f.wide l in
      let b = square_in h y f.high m in
      let positive =
      plus_signed 4194304 4194304 (offset_squared plain w x) (offset_squared plain h y) (signed a).size (signed b).size
      (square_plus w x f.wide l) (square_plus h y f.high m) in
      dimmed G (one_less (least_one (times⁺ (root⁺ (plus⁺ a b tt) positive tt) (lit⁺ 1 strength s) tt))) p)
