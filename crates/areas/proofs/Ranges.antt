-- Sums over the numbers from p up to q, and the part of a range that another range adds: so rows are added band by band. Assumes nothing.
use Prim.Native.Nat.{ℕ, ◌+◌, ◌-◌, ◌≤◌, ◌<◌, min, max}
use mathlib.Core.Path.{◌≡◌, sym, ap, ap₂, ◌∙◌}
use native.Mathlib.Decide.{dec_lt}
use native.Mathlib.Omega.{arith}
use Rattle.areas.specs.Areas.{sum}
use Rattle.areas.specs.Private.{over}
use Rattle.num.specs.Laws.Sums.{sum_ext, sum-zero, sum_more, sum_split}

module _ (F : ℕ → ℕ) where
  pub over-empty : (p q : ℕ) → q ≤ p → over p q F ≡ 0
  over-empty p q l = ap (λ (n : ℕ). sum n (λ t. F (p + t))) (omega arith) ∙ sum-zero (λ t. F (p + t))

  pub over_more : (p q : ℕ) → p ≤ q → over p (q + 1) F ≡ over p q F + F q
  over_more p q l =
      ap (λ (n : ℕ). sum n (λ t. F (p + t))) (omega arith) ∙ sum_more (q - p) (λ t. F (p + t)) ∙ ap (λ (n : ℕ). over p q F + F n) (omega arith)

  pub over_join : (p q r : ℕ) → p ≤ q → q ≤ r → over p r F ≡ over p q F + over q r F
  over_join p q r l m =
      ap (λ (n : ℕ). sum n (λ t. F (p + t))) (omega arith)
      ∙ sum_split (q - p) (r - q) (λ t. F (p + t))
      ∙ ap (λ (n : ℕ). over p q F + n) (sum_ext (r - q) (λ t. F (p + (q - p + t))) (λ t. F (q + t)) (λ t h. ap F (omega arith)))

  -- of the range from l to r: what is before e is what is before s, and what is between them
  pub over-step : (l r s e : ℕ) → s ≤ e → over l (min r e) F ≡ over l (min r s) F + over (max l s) (min r e) F
  over-step l r s e h = go (dec_lt (max l s) (min r e)) (dec_lt s l) (dec_lt l (min r e))
    where
      go : Dec (max l s < min r e) → Dec (s < l) → Dec (l < min r e) → over l (min r e) F ≡ over l (min r s) F + over (max l s) (min r e) F
      go (yes i) (yes j) k =
          let left : max l s ≡ l = omega arith in
          omega (arith, over-empty l (min r s) (omega arith), ap (λ (n : ℕ). over n (min r e) F) left)
      go (yes i) (no j) k =
          let left : max l s ≡ s = omega arith in
          let right : min r s ≡ s = omega arith in
          over_join l s (min r e) (omega arith) (omega arith) ∙ sym (ap₂ (λ (m n : ℕ). over l m F + over n (min r e) F) right left)
      go (no i) j (yes k) =
          let same : min r e ≡ min r s = omega arith in
          omega (arith, over-empty (max l s) (min r e) (omega arith), ap (λ (n : ℕ). over l n F) same)
      go (no i) j (no k) =
          omega (arith, over-empty (max l s) (min r e) (omega arith), over-empty l (min r e) (omega arith), over-empty l (min r s) (omega arith))
