-- Persistence, of a depth up to 8 with its amount in 0..1. A decay is in 0..1. The sum of the weights begins at 1 and
-- no later term takes from it, so it is in 1..9, and each weight in 0..1. A mix with j older frames is at most 255 (j +
-- 1): finite, then clamped to 0..255. The word i of the older frame j is word j * n + i of the history, which has k * n
-- at least. Assumes nothing.
use Rattle.std.specs.Prelude.{◌≡◌, ℕ, zero, suc, ◌+◌, ◌*◌, ◌<◌, ◌≤◌, cond, T, List, length, slice_index, Float}
use Rattle.std.proofs.Math.Path.{ap, subst}
use Rattle.std.proofs.Common.{inl, le_refl}
use native.Mathlib.Omega.{arith}
use Rattle.std.proofs.Math.Dec.{le→leb, lit≤}
use Rattle.std.specs.Float.Ieee.{of_bits}
use Rattle.num.specs.Const.{c0_55, c1_0}
use Rattle.num.specs.F32.{◌⊘◌}
use Rattle.num.specs.Held.{Held, same_held}
use Rattle.num.specs.Laws.Least.{Least, more_least}
use Rattle.num.specs.Laws.Sized.{exact}
use Rattle.num.specs.Ranges.{within}
use Rattle.passes.specs.Arith.{Arith, Agrees, plain}
use Rattle.passes.specs.Flow.{Flow, flow}
use Rattle.passes.proofs.Inside.Shared.{Tint, tint, loose, unpacked, scaled_in, clamped_same}
use Rattle.passes.specs.Painted.{Painted, painted}
use Rattle.passes.specs.Laws.Painted.{converted_same}
use Rattle.passes.specs.Persistence.{decay, total, weight, add, mix, blend, shifted, refilled}
use Rattle.passes.specs.Persistence.{persistence}
use Rattle.passes.specs.Laws.Range.{Plus, Big, signed, lit⁺, plus, plus⁺, times⁺, over⁺, one⁺}
use Rattle.passes.specs.Laws.Rows.{row_ends}
use Rattle.passes.specs.declared.pixel.Rgb.{Rgb}

module _ {A : Arith} (G : Agrees A) where
  module _ (amount : Float) (s : T (within 1 amount)) where
    decay_in : (j : ℕ) → Plus G 1 (decay A (A.lit amount) j) (decay plain amount j)
    unfolding decay within of_bits
    decay_in zero = lit⁺ 1 amount s
    decay_in (suc j) = times⁺ (decay_in j) (lit⁺ 1 c0_55 tt) tt

    total_in : (k : ℕ) → k ≤ 8 → Plus G (1 + k) (total A (A.lit amount) k) (total plain amount k)
    unfolding total
    total_in zero l = one⁺
    total_in (suc k) l =
        let e : 1 + k + 1 ≡ 1 + suc k = omega arith in
        subst (λ (n : ℕ). Plus G n (A.◌⊕◌ (total A (A.lit amount) k) (decay A (A.lit amount) k))
        (plain.◌⊕◌ (total plain amount k) (decay plain amount k))) e
        (plus⁺ (total_in k (omega arith)) (decay_in k) (le→leb (1 + k + 1) 16777216 (omega arith)))

    total_least : (k : ℕ) → k ≤ 8 → Least 1 (total plain amount k)
    unfolding total of_bits
    total_least zero l = lit≤ tt
    total_least (suc k) l =
        more_least (1 + k) 1 (total plain amount k) (decay plain amount k) (exact (1 + k + 1) (omega arith))
        (total_in k (omega arith)).inside (decay_in k).inside (inl (total_least k (omega arith)))

    module _ (k : ℕ) (few : k ≤ 8) where
      total_big : Big G 1 (total A (A.lit amount) k) (total plain amount k)
      total_big = record { is = (total_in k few).is; least = total_least k few }

      -- the weights, over A and as they are
      abbrev weights_over : ℕ → A.F
      weights_over = weight A (A.lit amount) (total A (A.lit amount) k)

      abbrev weights : ℕ → Float
      weights = weight plain amount (total plain amount k)

      added : (j q : ℕ) → j ≤ 8 → {a : A.Rgb} {b : Rgb} → Tint G ((j + 1) * 255) a b
          → Tint G ((suc j + 1) * 255) (add A a (weights_over j) q) (add plain b (weights j) q)
      unfolding add
      added j q l {a} {b} h =
          let c = scaled_in (unpacked G q) (over⁺ (decay_in j) total_big tt) in
          let e : (j + 1) * 255 + 255 ≡ (suc j + 1) * 255 = omega arith in
          let t = le→leb ((j + 1) * 255 + 255) 16777216 (omega arith) in
          subst (λ (n : ℕ). Tint G n (add A a (weights_over j) q) (add plain b (weights j) q)) e
          (tint (plus h.red (signed c.red) t) (plus h.green (signed c.green) t)
          (plus h.blue (signed c.blue) t))

      mix_in : (past : List ℕ) (n i p j : ℕ) → i < n → j ≤ k → k * n ≤ length past
          → Tint G ((j + 1) * 255) (mix A (A.◌⊘◌ (A.lit c1_0) (total A (A.lit amount) k)) weights_over past n i p j)
          (mix plain (c1_0 ⊘ total plain amount k) weights past n i p j)
      unfolding mix
      mix_in past n i p zero l m r = loose (scaled_in (unpacked G p) (over⁺ one⁺ total_big tt))
      mix_in past n i p (suc j) l m r =
          let there : j * n + i < length past = (let e = row_ends n k j m in omega arith) in
          rw (G.cell n past i j l there)
          (added j (slice_index past (j * n + i)) (omega arith) (mix_in past n i p j l (omega arith) r))

  pub persistence-inside : (amount : Float) (k : ℕ) (size : Held) (x : Flow) → T (within 1 amount) → k ≤ 8
      → k * length x.frame.words ≤ length x.past
      → persistence A (A.lit amount) k size x ≡ persistence plain amount k size x
  unfolding persistence blend
  persistence-inside amount k size x s few room =
      let words = x.frame.words in
      ap (λ (y : Painted). cond (same_held x.held size)
      (flow (painted y.words (x.frame.clipped + y.clipped)) size (shifted k words x.past))
      (flow x.frame size (refilled k words x.past)))
      (converted_same _ _ _ _ words _ _
      (λ i p l. clamped_same (mix_in amount s k few x.past (length words) i p k l (le_refl k) room)))
