-- `num::whole::half_up` meets its contract. The nearest whole number n is the one wanted, but at a tie that went down: there v is n + 1/2, a sum
-- that is exact below 2 ^ 23, and at n = 2 ^ 23, which v does not reach, is 2 ^ 23. Assumes nothing.
use mathlib.Core.Path.{◌≡◌, refl, ap, subst}
use mathlib.Core.Logic.{inl, inr}
use Prim.Native.Nat.{ℕ, ◌+◌, ◌*◌, ◌≤◌, ◌<◌}
use native.Mathlib.Nat.{eq-or-lt_of_le}
use native.Mathlib.Omega.{arith}
use mathlib.Core.Bool.{true, false}
use lib.Dec.{T, ltb→lt, lit<}
use lib.Ieee.{Float, fin, up, down, add, of_int, le, of_bits, nan, inf}
use lib.Ieee.Fits.{down_pos}
use lib.Ieee.Exact.{HasValue}
use Rattle.num.specs.Const.{c0_5}
use Rattle.num.specs.F32.{◌⊕◌, whole}
use Rattle.num.specs.Private.{under, half_up_of, Near}
use Rattle.num.specs.Laws.Values.{half_more, value_le, value_not-le}
use Rattle.num.proofs.NearWhole.{near_le, half-above, half-below}
use Rattle.num.proofs.whole.half_up.Goals as goal

top : HasValue (whole 8388608 ⊕ c0_5) false 8388608 1
unfolding add of_int of_bits
top = (refl, refl)

too_far : (a c : ℕ) → 8388608 * c ≤ a * 1 → a < 8388608 * c → ⊥
too_far a c h l = omega arith

module _ (n : ℕ) (v : Float) (h : T (under 8388608 v)) (b : Near v n) where
  small : n ≤ 8388608
  small = near_le 8388608 n v h b

  if_tie : le (whole n ⊕ c0_5) v ≡ true → n + 1 ≡ half_up_of v
  unfolding under Near half_up_of
  if_tie = go v h b
    where
      go : (v : Float) → T (under 8388608 v) → Near v n → le (whole n ⊕ c0_5) v ≡ true → n + 1 ≡ half_up_of v
      go nan h b l = elim h [ ]
      go (inf _) h b l = elim h [ ]
      go (fin true m e) h b l = elim h [ ]
      go (fin false m e) h b l =
          elim (eq-or-lt_of_le small) [
            | inl i ↦ absurd (too_far (m * up e) (down e) (value_le m e 8388608 1 (lit< tt) (whole 8388608 ⊕ c0_5) top (subst (λ (k : ℕ). le (whole k ⊕ c0_5) (fin false m e) ≡ true) i l)) (ltb→lt (m * up e) (8388608 * down e) h))
            | inr k ↦ half-above (m * up e) (down e) n (down_pos e) b (value_le m e (2 * n + 1) 2 (lit< tt) (whole n ⊕ c0_5) (half_more n k) l)
          ]

  if_not : le (whole n ⊕ c0_5) v ≡ false → n ≡ half_up_of v
  unfolding under Near half_up_of
  if_not = go v h b
    where
      under_top : (a c n : ℕ) → n ≡ 8388608 → a < 8388608 * c → a * 2 < (2 * n + 1) * c
      under_top a c n i l =
          let p : (2 * n + 1) * c ≡ 16777217 * c = ap (λ (k : ℕ). (2 * k + 1) * c) i in
          omega arith

      go : (v : Float) → T (under 8388608 v) → Near v n → le (whole n ⊕ c0_5) v ≡ false → n ≡ half_up_of v
      go nan h b l = elim h [ ]
      go (inf _) h b l = elim h [ ]
      go (fin true m e) h b l = elim h [ ]
      go (fin false m e) h b l =
          half-below (m * up e) (down e) n (down_pos e) b
          (elim (eq-or-lt_of_le small) [
            | inl i ↦ under_top (m * up e) (down e) n i (ltb→lt (m * up e) (8388608 * down e) h)
            | inr k ↦ value_not-le m e (2 * n + 1) 2 (lit< tt) (whole n ⊕ c0_5) (half_more n k) l
          ])

-- ---- the needs
pub float-requires : goal.float-requires
float-requires c = small c.near-n.result c.args.v c.requires c.near-n.ensures

pub overflow_add-result : goal.overflow_add-result
overflow_add-result c = omega (arith, small c.near-n.result c.args.v c.requires c.near-n.ensures)

pub returns-then-float-v : goal.returns-then-float-v
returns-then-float-v c = let n = c.near-n.result in
    let v = c.args.v in
    if_tie n v c.requires c.near-n.ensures (subst (λ (w : Float). le (w ⊕ c0_5) v ≡ true) c.float.ensures c.if-float-v.true)

pub returns-else-float-v : goal.returns-else-float-v
returns-else-float-v c = let n = c.near-n.result in
    let v = c.args.v in
    if_not n v c.requires c.near-n.ensures (subst (λ (w : Float). le (w ⊕ c0_5) v ≡ false) c.float.ensures c.if-float-v.false)
