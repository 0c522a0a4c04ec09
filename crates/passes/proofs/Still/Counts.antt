-- How far the mix of equal channels moves. Values are counted in units so small that each is a whole count (num's
-- Units): with u units to 1, and u = 1048576 f, a rounding of what is below 16 moves it by at most f units, and one
-- of what is below 8192 by at most 512 f. Where T is the sum of all weights before division and S of those mixed so
-- far, the mix of equal channels c, times T, is c * S * u, but for 1789 f * T with each word (`more`). At the end S
-- is T, so the mix is c * u but for 16101 f, and that is less than u (`channel-still`). Assumes nothing.
use Rattle.std.specs.Prelude.{◌≡◌, ℕ, zero, suc, ◌+◌, ◌*◌, ◌^◌, ◌<◌, ◌≤◌, false, refl, Float}
use Rattle.std.proofs.Common.{suc-le-suc, mul_assoc, mul-le-mul, le_of_mul-le-mul_right, le_of_lt, arith, lit<, lit≤}
use Rattle.std.proofs.Math.Nat.{mul_comm, mul-le-mul_right, le_trans, le_of_eq, le_of_suc-le-suc}
use Rattle.std.proofs.Math.Path.{sym, subst}
use Rattle.std.specs.Float.Ieee.{nan, up, down, of_bits}
use Rattle.std.specs.Float.{inf, fin}
use Rattle.std.specs.Float.Ieee.Exact.{HasValue}
use Rattle.std.specs.Float.Ieee.Positive.{num, den, den_pos}
use Rattle.num.specs.Const.{c0_0, c0_55, c1_0, c255_0}
use Rattle.num.specs.F32.{◌⊗◌, ◌⊘◌, whole}
use Rattle.num.specs.Steps.{clamp_of, cut_of}
use Rattle.num.specs.Laws.Units.{one, one_pos, count, Counted, count-is, counted, Moved, step, one-is, sum_moved}
use Rattle.num.specs.Laws.Units.{product_moved, times_moved, quotient_moved, Off, scale, unscale, cut_near}
use Rattle.passes.specs as Text
use Rattle.passes.specs.Plain.Persistence.{decay, total, weight}
use Rattle.passes.specs.Still.{OrBelow}
use Rattle.passes.proofs.Still.Words.{equal}

-- ---- whole numbers: a word more is mixed

-- in units: M is the mix so far and M' the mix then, P the word's share, W its weight; D is the weight before
-- division, S and S' the sums of those so far
module _ (c u f T : ℕ) (small : c ≤ 255) (half : u ≤ 2 * T) where
  more : (M M' P W D S S' e : ℕ) → Off (e * T) (M * T) (c * S * u) → Off (512 * f) P (c * W)
      → Off (f * T) (W * T) (D * u) → Off f S' (S + D)
      → Off (512 * f) M' (M + P) → Off ((e + 1789 * f) * T) (M' * T) (c * S' * u)
  more M M' P W D S S' e so_far share divided sum now =
      let a = scale T now in
      let b = scale T share in
      let d = scale c divided in
      let g = scale (c * u) sum in
      let i = mul-le-mul_right (f * T) small in
      let j = mul-le-mul (mul-le-mul_right f small) half in
      omega arith

  -- so M itself leaves room for one share more below 8192
  mix_less : (M S e : ℕ) → 0 < T → S ≤ 10 * u → e ≤ u → Off (e * T) (M * T) (c * S * u) → M ≤ 5101 * u
  mix_less M S e t s l h =
      le_of_mul-le-mul_right {k = T}
      (let a = mul-le-mul_right u (mul-le-mul small s) in
      let b = mul-le-mul_right u half in
      let d = mul-le-mul_right T l in
      omega arith) t

-- ---- counts

-- an amount that is not negative, and at most 1
module _ (amount : Float) (own : HasValue amount false (num amount) (den amount)) (most : num amount ≤ den amount) where
  abbrev q : ℕ
  q = den amount

  Q : 0 < q
  Q = den_pos amount

  abbrev u : ℕ
  u = one q

  abbrev n : Float → ℕ
  n = count q

  abbrev Known : Float → Type 0
  Known = Counted q

  -- what the rounding of a number below 16 moves; below 8192, 512 times as much
  abbrev f : ℕ
  f = step q 4

  u-is : u ≡ 1048576 * f
  u-is = one-is q 4 (lit≤ tt)

  coarse : step q 13 ≡ 512 * f
  coarse = let e : u ≡ 2048 * step q 13 = one-is q 13 (lit≤ tt) in omega (arith, u-is)

  f_pos : 0 < f
  f_pos = omega (arith, u-is, one_pos q Q)

  -- ---- weights

  amount_value : (x : Float) → HasValue x false (num x) (den x) → HasValue x false (num x * 2 ^ 149) (one (den x))
  unfolding one
  amount_value nan v = v
  amount_value (inf s) v = v
  amount_value (fin s m e) v = (v.0, sym (mul_assoc (m * up e) (2 ^ 149) (down e)))

  amount_less : num amount * 2 ^ 149 ≤ u
  unfolding one
  amount_less = le_trans (mul-le-mul_right (2 ^ 149) most) (le_of_eq (mul_comm (den amount) (2 ^ 149)))

  amount_known : Known amount × (n amount ≤ u)
  amount_known =
      let v = amount_value amount own in (
        counted q amount (num amount * 2 ^ 149) v,
        le_trans (le_of_eq (count-is q amount (num amount * 2 ^ 149) v)) amount_less,
      )

  one_value : HasValue c1_0 false u u
  unfolding of_bits
  one_value = (refl, mul_comm 1 u)

  one_known : Known c1_0 × (n c1_0 ≡ u)
  one_known = (counted q c1_0 u one_value, count-is q c1_0 u one_value)

  c0_55_value : HasValue c0_55 false 9227469 16777216
  unfolding of_bits
  c0_55_value = (refl, refl)

  decay_known : (j : ℕ) → Known (decay amount j) × (n (decay amount j) ≤ u)
  unfolding Text.Persistence.decay
  decay_known zero = amount_known
  decay_known (suc j) =
      let d = decay_known j in
      let r = product_moved q Q 4 (lit≤ tt) (decay amount j) c0_55 9227469 16777216 d.0 c0_55_value (lit< tt) (omega (arith, d.1, u-is, f_pos)) in
      (r.known, omega (arith, d.1, r.near, u-is))

  record Total (k : ℕ) : Type 0 where
    known : Known (total amount k)
    low : u ≤ n (total amount k) + k * f
    high : n (total amount k) ≤ k * u + u + k * f

  total_more : (k : ℕ) → k < 8 → Total k → Moved q f (n (total amount k) + n (decay amount k)) 1 (total amount (suc k))
  unfolding Text.Persistence.total
  total_more k l t =
      let d = decay_known k in
      let less = le_of_suc-le-suc l in
      sum_moved q Q 4 (lit≤ tt) (total amount k) (decay amount k) t.known d.0
      (omega (arith, t.high, d.1, u-is, f_pos, mul-le-mul_right u less, mul-le-mul_right f less))

  total_known : (k : ℕ) → k ≤ 8 → Total k
  unfolding Text.Persistence.total
  total_known zero l = record { known = one_known.0; low = omega (arith, one_known.1); high = omega (arith, one_known.1) }
  total_known (suc k) l =
      let t = total_known k (omega arith) in
      let m = total_more k l t in
      record { known = m.known; low = omega (arith, t.low, m.near); high = omega (arith, t.high, m.near, (decay_known k).1) }

  total_less : (j : ℕ) → j ≤ 8 → n (total amount j) ≤ 10 * u
  total_less j l = omega (arith, (total_known j l).high, mul-le-mul_right u l, mul-le-mul_right f l, u-is)

  -- how far a channel of j + 1 equal words has moved
  abbrev err : ℕ → ℕ
  err j = suc j * (1789 * f)

  err-suc : (j : ℕ) → err j + 1789 * f ≡ err (suc j)
  err-suc j = omega arith

  err_less : (j : ℕ) → j ≤ 8 → err j < u
  err_less j l = omega (arith, mul-le-mul_right (1789 * f) (suc-le-suc l), u-is, f_pos)

  -- ---- k + 1 equal words, mixed by the weights of depth k

  module _ (k : ℕ) (few : k ≤ 8) where
    abbrev t : Float
    t = total amount k

    abbrev T : ℕ
    T = n t

    near_one : u ≤ T + 8 * f
    near_one = omega (arith, (total_known k few).low, mul-le-mul_right f few)

    half : u ≤ 2 * T
    half = omega (arith, near_one, u-is)

    T-pos : 0 < T
    T-pos = omega (arith, near_one, u-is, f_pos)

    -- a weight x before division, of at most 1
    module _ (x : Float) (v : Known x) (l : n x ≤ u) where
      divided : Moved q f (n x * u) T (x ⊘ t)
      divided = quotient_moved q Q 4 (lit≤ tt) x t v (total_known k few).known T-pos (omega (arith, near_one, u-is, f_pos))

      divided_less : n (x ⊘ t) ≤ 3 * u
      divided_less =
          let f-less : f ≤ u = omega (arith, u-is) in
          let a = mul-le-mul_right u l in
          let b = mul-le-mul_right u half in
          let d = mul-le-mul_right T f-less in
          le_of_mul-le-mul_right {k = T} (omega (arith, divided.near)) T-pos

      -- of a channel c
      share : (c : ℕ) → c ≤ 255 → Moved q (512 * f) (c * n (x ⊘ t)) 1 (whole c ⊗ (x ⊘ t))
      share c small =
          subst (λ (g : ℕ). Moved q g (c * n (x ⊘ t)) 1 (whole c ⊗ (x ⊘ t))) coarse
          (times_moved q Q 13 (lit≤ tt) c (x ⊘ t) (omega arith) divided.known (omega (arith, mul-le-mul small divided_less, u-is, f_pos)))

      share_less : (c : ℕ) → c ≤ 255 → n (whole c ⊗ (x ⊘ t)) ≤ 766 * u
      share_less c small = omega (arith, (share c small).near, mul-le-mul small divided_less, u-is)

    module _ (c : ℕ) (small : c ≤ 255) where
      abbrev mixed : ℕ → Float
      mixed = equal (c1_0 ⊘ t) (weight amount t) c

      -- T times the mix of the first j + 1 words is c times the sum of their weights
      record Mixed (j : ℕ) : Type 0 where
        known : Known (mixed j)
        near : Off (err j * T) (n (mixed j) * T) (c * n (total amount j) * u)

      mixed_known : (j : ℕ) → j ≤ 8 → Mixed j
      unfolding equal Text.Persistence.total
      mixed_known zero l =
          let v = one_known.0 in
          let o = le_of_eq one_known.1 in
          let s = share c1_0 v o c small in
          let d = divided c1_0 v o in
          let P = n (whole c ⊗ (c1_0 ⊘ t)) in
          record {
            known = s.known;
            near =
                let first =
                more c u f T small half 0 P P (n (c1_0 ⊘ t)) (n c1_0) 0 (n c1_0) 0 (omega arith) (omega (arith, s.near))
                d.near (omega arith) (omega arith) in
                omega (arith, first);
          }
      mixed_known (suc j) l =
          let D = n (decay amount j) in
          let S = n (total amount j) in
          let S' = n (total amount (suc j)) in
          let W = n (weight amount t j) in
          let P = n (whole c ⊗ weight amount t j) in
          let M = n (mixed j) in
          let m = mixed_known j (omega arith) in
          let w = decay_known j in
          let d = divided (decay amount j) w.0 w.1 in
          let s = share (decay amount j) w.0 w.1 c small in
          let a = total_more j l (total_known j (omega arith)) in
          let less = mix_less c u f T small half M S (err j) T-pos (total_less j (omega arith)) (le_of_lt (err_less j (omega arith))) m.near in
          let room : M + P < 8192 * u = omega (arith, less, share_less (decay amount j) w.0 w.1 c small, one_pos q Q) in
          let z = subst (λ (g : ℕ). Moved q g (M + P) 1 (mixed (suc j))) coarse
          (sum_moved q Q 13 (lit≤ tt) (mixed j) (whole c ⊗ weight amount t j) m.known s.known room) in
          record {
            known = z.known;
            near =
                subst (λ (e : ℕ). Off (e * T) (n (mixed (suc j)) * T) (c * S' * u)) (err-suc j)
                (more c u f T small half M (n (mixed (suc j))) P W D S S' (err j) m.near (omega (arith, s.near))
                d.near (omega (arith, a.near)) (omega (arith, z.near)));
          }

      pub channel-still : OrBelow c (cut_of (clamp_of (mixed k) c0_0 c255_0))
      channel-still =
          let m = mixed_known k few in
          let near : Off (err k) (n (mixed k)) (c * u) = unscale T T-pos (omega (arith, m.near)) in
          let less = err_less k few in
          cut_near c (mixed k) (n (mixed k)) u small (one_pos q Q) m.known (omega (arith, near.least)) (omega (arith, near.most))
