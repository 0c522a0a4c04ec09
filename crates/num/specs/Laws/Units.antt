-- How far a rounding moves a value that is not negative: by at most 2 ^ (p - 24) where the exact result is below 2 ^
-- p (`Moved`). So that errors add up in whole numbers, values are counted in units so small that all of them are
-- whole counts. Assumes nothing.
use Rattle.std.specs.Prelude.{◌≡◌, Bool, cond, ◌⊎◌, ℤ, pos, Float}
use Rattle.std.proofs.Math.Path.{refl, sym, ap, subst}
use Rattle.std.proofs.Common.{◌∙◌, mul-one, mul_comm, mul-lt-mul_of_pos_right, le_of_mul-le-mul_right, lt_of_lt_of_le, le_trans, le_of_eq, mod-lt}
use Rattle.std.proofs.Common.{eq-or-lt_of_le, div-add-mod', div-lt_iff_lt-mul, true≢false, inr, le-leb, lit<, lit≤, pow-add, pow_pos, pow_mono}
use Prim.Native.Nat.{ℕ, ◌+◌, ◌-◌, ◌*◌, ◌/◌, ◌%◌, ◌^◌, ◌≤◌, ◌<◌, compare}
use Rattle.std.proofs.Math.Nat.{mul_assoc, mul_right_comm, mul-pos, mul-le-mul_right, lt_of_mul-lt-mul_right, lt-div-mul-add, mul-div_cancel}
use native.Mathlib.Omega.{arith}
use Rattle.std.proofs.Math.Bool.{true, false}
use Rattle.std.proofs.Math.Logic.{inl}
use Rattle.std.specs.Float.Ieee.{nan, up, down, size, round, lt, of_bits}
use Rattle.std.specs.Float.{inf, fin, binary32}
use Rattle.std.specs.Float.Ieee.Digits.{size-le}
use Rattle.std.specs.Float.Ieee.Exact.{HasValue, units_val}
use Rattle.std.specs.Float.Ieee.Fits.{nearest-le, round_is, down_pos}
use Rattle.std.specs.Float.Ieee.Nearest.{closest, nearest-ge}
use Rattle.std.specs.Float.Ieee.Positive.{num, den, den_pos, value→cross}
use Rattle.std.specs.Float.Ieee.Scale.{round_same}
use Rattle.num.specs.Const.{c0_0, c255_0}
use Rattle.num.specs.Steps.{clamp_of, cut_of}
use Rattle.num.specs.Laws.Bounds.{cut_value, top_is}
use Rattle.num.specs.F32.{◌⊕◌, ◌⊗◌, ◌⊘◌, whole}
use Rattle.num.specs.Laws.Values.{add_at, mul_at, div-at, whole_value, lt_value}

-- ---- distances

-- x and y differ by at most e
pub record Off (e x y : ℕ) : Type 0 where
  pub most : x ≤ y + e
  pub least : y ≤ x + e

pub scale : (k : ℕ) {e x y : ℕ} → Off e x y → Off (e * k) (x * k) (y * k)
scale k h = let a = mul-le-mul_right k h.most in let b = mul-le-mul_right k h.least in omega arith

pub unscale : (k : ℕ) {e x y : ℕ} → 0 < k → Off (e * k) (x * k) (y * k) → Off e x y
unscale k {e} {x} {y} K h = record {
  most = le_of_mul-le-mul_right {m = x} {n = y + e} {k = k} (omega (arith, h.most)) K;
  least = le_of_mul-le-mul_right {m = y} {n = x + e} {k = k} (omega (arith, h.least)) K;
}

-- ---- a rounded fraction

-- a / u, rounded to a whole number, moves by at most 1
closest_near : (a u : ℕ) → 0 < u → Off u (closest a u * u) a
closest_near a u U =
    let o = compare (a % u * 2) u in
    let low = mul-le-mul_right u (nearest-ge (a / u) o) in
    let high = mul-le-mul_right u (nearest-le (a / u) o) in
    let whole : a / u * u + a % u ≡ a = div-add-mod' a u in
    let rest = mod-lt a U in
    omega arith

-- x, counted in units of 2 ^ -149, is at most 2 ^ (125 + p) of them away from a / c
pub record Rounded (p a c : ℕ) (x : Float) : Type 0 where
  pub units : ℕ
  pub value : HasValue x false units (2 ^ 149)
  pub near : Off (2 ^ (125 + p) * c) (units * c) (a * 2 ^ 149)

-- r units of 2 ^ k, where r is n / (c * 2 ^ k) rounded, are at most e away from n / c
kept_near : (n c k e : ℕ) → 0 < c → 2 ^ k ≤ e → Off (e * c) (closest n (c * 2 ^ k) * 2 ^ k * c) n
kept_near n c k e C few =
    let near = closest_near n (c * 2 ^ k) (mul-pos C (pow_pos k)) in
    let step = mul-le-mul_right c few in
    omega arith

-- what is m times c, and but for e times c below t times c
under-two : (m c t e n : ℕ) → m * c ≤ n + e * c → n < t * c → e ≤ t → m < 2 * t
under-two m c t e n h l small = lt_of_mul-lt-mul_right c (let s = mul-le-mul_right c small in omega arith)

pub round_near : (p a c : ℕ) → p ≤ 24 → 0 < c → a < 2 ^ p * c → Rounded p a c (round binary32 false a c)
round_near p a c small C h =
    let n = a * 2 ^ 149 in
    let k = size (n / c) - 24 in
    let r = closest n (c * 2 ^ k) in
    let t = 2 ^ (p + 149) in
    let below-t : n < t * c =
    subst (λ (x : ℕ). n < x) (mul_right_comm (2 ^ p) c (2 ^ 149) ∙ ap (λ (x : ℕ). x * c) (sym (pow-add 2 p 149))) (mul-lt-mul_of_pos_right h (pow_pos 149)) in
    let digits : k ≤ 125 + p = fewer (size (n / c)) p (size-le (n / c) (p + 149) ((div-lt_iff_lt-mul C).1 below-t)) in
    let near = kept_near n c k (2 ^ (125 + p)) C (pow_mono digits) in
    let top : r * 2 ^ k < 2 * t = under-two (r * 2 ^ k) c t (2 ^ (125 + p)) n near.most below-t (pow_mono (less p)) in
    record {
      units = r * 2 ^ k;
      value =
          subst (λ (x : Float). HasValue x false (r * 2 ^ k) (2 ^ 149)) (sym (round_is binary32 false a c))
          (units_val binary32 false r k (lt_of_lt_of_le top (le_trans (le_of_eq (sym (pow-add 2 1 (p + 149)))) (pow_mono (room p small)))));
      near = near;
    }
  where
    fewer : (s p : ℕ) → s ≤ p + 149 → s - 24 ≤ 125 + p
    fewer s p h = omega arith

    less : (p : ℕ) → 125 + p ≤ p + 149
    less p = omega arith

    room : (p : ℕ) → p ≤ 24 → 1 + (p + 149) ≤ 149 + 128
    room p h = omega arith

-- ---- counts

-- the units are 1 / `one`, where `one` is 2 ^ 149 times any q: each binary32 value is a whole count of them, and so
-- is each value with the denominator q
module _ (q : ℕ) where
  unfoldable pub one : ℕ
  one = 2 ^ 149 * q

  unfoldable pub count : Float → ℕ
  count x = num x * one / den x

  -- x is not negative, and a whole count
  abbrev pub Counted : Float → Type 0
  Counted x = HasValue x false (count x) one

  -- and its count is m / c, moved by at most e
  pub record Moved (e m c : ℕ) (x : Float) : Type 0 where
    pub known : Counted x
    pub near : Off (e * c) (count x * c) m

  -- by how much rounding to 24 digits moves what is below 2 ^ p
  unfoldable pub step : ℕ → ℕ
  step p = 2 ^ (125 + p) * q

  pub one-is : (p : ℕ) → p ≤ 24 → one ≡ 2 ^ (24 - p) * step p
  unfolding one step
  one-is p small =
      let whole : 149 ≡ 24 - p + (125 + p) = omega arith in
      ap (λ (k : ℕ). 2 ^ k * q) whole ∙ ap (λ (k : ℕ). k * q) (pow-add 2 (24 - p) (125 + p)) ∙ mul_assoc (2 ^ (24 - p)) (2 ^ (125 + p)) q

  pub count-is : (x : Float) (n : ℕ) → HasValue x false n one → count x ≡ n
  unfolding count
  count-is x n v = ap (λ (k : ℕ). k / den x) (value→cross x n one v) ∙ mul-div_cancel n (den_pos x)

  pub counted : (x : Float) (n : ℕ) → HasValue x false n one → Counted x
  counted x n v = subst (λ (k : ℕ). HasValue x false k one) (sym (count-is x n v)) v

  finer : (x : Float) (n : ℕ) → HasValue x false n (2 ^ 149) → HasValue x false (n * q) one
  unfolding one
  finer nan n v = v
  finer (inf s) n v = v
  finer (fin s m e) n v = (v.0, sym (mul_assoc (m * up e) (2 ^ 149) q) ∙ ap (λ (k : ℕ). k * q) v.1 ∙ mul_right_comm n (down e) q)

module _ (q : ℕ) (Q : 0 < q) where
  abbrev u : ℕ
  u = one q

  abbrev n : Float → ℕ
  n = count q

  pub one_pos : 0 < u
  unfolding one
  one_pos = mul-pos (pow_pos 149) Q

  pub round_moved : (p m c : ℕ) (x : Float) → p ≤ 24 → 0 < c → m < 2 ^ p * u * c
      → x ≡ round binary32 false m (u * c) → Moved q (step q p) m c x
  unfolding one step
  round_moved p m c x small C h e =
      let r = round_near p m (u * c) small (mul-pos one_pos C) (subst (λ (k : ℕ). m < k) (mul_assoc (2 ^ p) u c) h) in
      let v : HasValue x false (r.units * q) u = finer q x r.units (subst (λ (z : Float). HasValue z false r.units (2 ^ 149)) (sym e) r.value) in
      let is : n x ≡ r.units * q = count-is q x (r.units * q) v in
      record {
        known = counted q x (r.units * q) v;
        near =
            subst (λ (k : ℕ). Off (step q p * c) (k * c) m) (sym is)
            (unscale (2 ^ 149) (pow_pos 149) (turned (2 ^ (125 + p)) r.units (2 ^ 149) c m r.near));
      }
    where
      turned : (e k t c m : ℕ) → Off (e * (t * q * c)) (k * (t * q * c)) (m * t)
          → Off (e * q * c * t) (k * q * c * t) (m * t)
      turned e k t c m h = omega arith

  -- ---- the operations

  module _ (p : ℕ) (small : p ≤ 24) where
    -- a whole number of units, rounded
    whole_moved : (m : ℕ) (x : Float) → m < 2 ^ p * u → x ≡ round binary32 false m (u * 1) → Moved q (step q p) m 1 x
    whole_moved m x h e = round_moved p m 1 x small (lit< tt) (subst (λ (k : ℕ). m < k) (sym (mul-one (2 ^ p * u))) h) e

    pub sum_moved : (x y : Float) → Counted q x → Counted q y → n x + n y < 2 ^ p * u
        → Moved q (step q p) (n x + n y) 1 (x ⊕ y)
    sum_moved x y v w h =
        whole_moved (n x + n y) (x ⊕ y) h
        (add_at binary32 x y (n x) u (n y) u one_pos one_pos v w
        ∙ round_same binary32 false _ (u * u) (n x + n y) (u * 1) (mul-pos one_pos one_pos) (mul-pos one_pos (lit< tt)) (over (n x) (n y) u))
      where
        over : (a b u : ℕ) → (a * u + b * u) * (u * 1) ≡ (a + b) * (u * u)
        over a b u = omega arith

    -- k times y
    pub times_moved : (k : ℕ) (y : Float) → k ≤ 16777216 → Counted q y → k * n y < 2 ^ p * u
        → Moved q (step q p) (k * n y) 1 (whole k ⊗ y)
    times_moved k y l v h =
        whole_moved (k * n y) (whole k ⊗ y) h
        (mul_at binary32 (whole k) y k 1 (n y) u (lit< tt) one_pos (whole_value k l) v ∙ ap (round binary32 false (k * n y)) (mul_comm 1 u))

    -- x times a / c
    pub product_moved : (x y : Float) (a c : ℕ) → Counted q x → HasValue y false a c → 0 < c
        → n x * a < 2 ^ p * u * c → Moved q (step q p) (n x * a) c (x ⊗ y)
    product_moved x y a c v w C h = round_moved p (n x * a) c (x ⊗ y) small C h (mul_at binary32 x y (n x) u a c one_pos C v w)

    pub quotient_moved : (x y : Float) → Counted q x → Counted q y → 0 < n y → n x < 2 ^ p * n y
        → Moved q (step q p) (n x * u) (n y) (x ⊘ y)
    quotient_moved x y v w Y h =
        round_moved p (n x * u) (n y) (x ⊘ y) small Y (lt_of_lt_of_le (mul-lt-mul_of_pos_right h one_pos) (le_of_eq (mul_right_comm (2 ^ p) (n y) u)))
        (div-at binary32 x y (n x) u (n y) u one_pos one_pos Y v w ∙ ap (round binary32 false (n x * u)) (mul_comm (n y) u))

-- ---- clamped to 0..255 and cut

-- of i / d, which is no less than c - 1 and below c + 1
module _ (c m : ℕ) (e : ℤ) (small : c ≤ 255) (low : c * down e ≤ m * up e + down e) (high : m * up e < (c + 1) * down e) where
  abbrev x : Float
  x = fin false m e

  -- c or one below
  abbrev Close : ℕ → Type 0
  Close k = (k ≡ c) ⊎ (k + 1 ≡ c)

  whole_part : Close (m * up e / down e)
  whole_part =
      let k = m * up e / down e in
      let less : k < c + 1 = (div-lt_iff_lt-mul (down_pos e)).1 high in
      let most : k ≤ c = omega arith in
      let least : c < k + 2 = lt_of_mul-lt-mul_right (down e) (omega (arith, lt-div-mul-add {a = m * up e} (down_pos e))) in
      elim (eq-or-lt_of_le most) [ inl s ↦ inl s | inr l ↦ inr (omega arith) ]

  cut-plain : Close (cut_of x)
  unfolding cut_of
  cut-plain = rw (le-leb (m * up e) (1023 * down e) (let l = mul-le-mul_right (down e) small in omega arith)) whole_part

  zero_is : HasValue c0_0 false 0 1
  unfolding of_bits
  zero_is = (refl, refl)

  above : lt c255_0 x ≡ true → 255 * down e < m * up e
  unfolding of_bits
  above h = let l = lt_value 255 (pos 0) (m * up e) (down e) (down_pos e) x (refl, refl) h in omega arith

  cut_clamped : Close (cut_of (clamp_of x c0_0 c255_0))
  unfolding clamp_of
  cut_clamped = go (lt x c0_0) (lt c255_0 x) refl refl
    where
      go : (p q : Bool) → lt x c0_0 ≡ p → lt c255_0 x ≡ q → Close (cut_of (cond p c0_0 (cond q c255_0 x)))
      go true q h k = let l = lt_value m e 0 1 (lit< tt) c0_0 zero_is h in absurd (omega arith)
      go false true h k =
          let l : 255 < c + 1 = lt_of_mul-lt-mul_right (down e) (omega (arith, above k)) in
          inl (cut_value 255 c255_0 top_is (lit≤ tt) ∙ omega arith)
      go false false h k = cut-plain

-- a channel c comes back as c or one below
pub cut_near : (c : ℕ) (x : Float) (a u : ℕ) → c ≤ 255 → 0 < u → HasValue x false a u → c * u ≤ a + u → a < (c + 1) * u
    → (cut_of (clamp_of x c0_0 c255_0) ≡ c) ⊎ (cut_of (clamp_of x c0_0 c255_0) + 1 ≡ c)
cut_near c nan a u l U v low high = absurd v
cut_near c (inf s) a u l U v low high = absurd v
cut_near c (fin true m e) a u l U v low high = absurd (true≢false v.0)
cut_near c (fin false m e) a u l U v low high =
    cut_clamped c m e l
    (le_of_mul-le-mul_right {k = u} (let k = mul-le-mul_right (down e) low in omega (arith, v.1)) U)
    (lt_of_mul-lt-mul_right u (let k = mul-lt-mul_of_pos_right high (down_pos e) in omega (arith, v.1)))
