-- The definition of the root means what document 01 says (`root_is_nearest`, at the end): for every x that is finite and above 0, `root_of x` is
-- the one binary32 value that is nearest to the true square root of x. Assumes nothing.
use mathlib.Core.Path.{◌≡◌, sym, ap, ◌∙◌, subst}
use mathlib.Core.Logic.{◌⊎◌, inl, inr}
use Prim.Native.Nat.{ℕ, suc, ◌+◌, ◌-◌, ◌*◌, ◌/◌, ◌%◌, ◌^◌, ◌≤◌, ◌<◌, zero-le}
use native.Mathlib.Nat.{le_trans, le_antisymm, add_comm, le_of_suc-le-suc, le_of_eq, le_of_lt, lt_of_lt_of_le, lt_of_le_of_lt, lt_of_not-le, not-le_of_lt}
use native.Mathlib.Nat.{lt_irrefl, eq-or-lt_of_le, eq-zero-or-pos, mul_assoc, add-mul, mul-le-mul, mul-le-mul_left, mul-le-mul_right, mul-lt-mul_of_pos_left}
use native.Mathlib.Nat.{mul-lt-mul_of_pos_right, mul-pos, lt_of_mul-lt-mul_right, eq_of_mul-eq-mul_right}
use native.Mathlib.Decide.{dec_le}
use native.Mathlib.Omega.{arith}
use mathlib.Core.Bool.{false}
use lib.Dec.{T, lit<}
use lib.Pow.{pow-add, pow_pos, pow_mono, shl_lt}
use lib.Ieee.{Float, nan, inf, fin, binary32, down, size, of_bits, to_bits, fits}
use lib.Ieee.Fits.{down_pos}
use lib.Ieee.Bits.{of_bits-to_bits, of_bits-fits}
use lib.Ieee.Exact.{HasValue, units_val}
use lib.Ieee.Positive.{positive, num, den, own_value}
use Rattle.num.specs.Root.{whole_root, nearest_root, root_of}
use Rattle.num.specs.Const.{c0_0}
use Rattle.num.specs.NearestRoot.{Nearer, NearestRoot, RootIsNearest}
use Rattle.num.proofs.WholeRoot.{whole_is}
use Rattle.num.proofs.RoundedRoot.{parity, root_lo, root_hi, halfway, strict, nearest_of}
use Rattle.num.proofs.Patterns.{finite_pattern, subnormal, normal, under_top, pattern-is}
use Rattle.num.proofs.RootOperand.{root_of_units}
use Rattle.num.proofs.ScaledRoot.{power, zeros_lo, A, c, lo, hi, even, same, bits_are}

-- ---- among the multiples of 2 ^ (c + 1)

square_le : {a b : ℕ} → a ≤ b → a * a ≤ b * b
square_le h = mul-le-mul h h

square_lt : {a b : ℕ} → a < b → a * a < b * b
square_lt {a} {b} h = lt_of_le_of_lt (mul-le-mul_left a (le_of_lt h)) (mul-lt-mul_of_pos_right h (lt_of_le_of_lt zero-le h))

module _ (A c : ℕ) (lo : 2 ^ 48 ≤ A) (hi : A < 2 ^ 50) (even : A % 2 ≡ 0) where
  abbrev R : ℕ
  R = (whole_root A + 1) / 2

  abbrev K : ℕ
  K = 2 ^ (c + 1)

  abbrev n : ℕ
  n = A * (2 ^ c * 2 ^ c)

  square_pos : 0 < 2 ^ c * 2 ^ c
  square_pos = mul-pos (pow_pos c) (pow_pos c)

  R-lo : 2 ^ 23 ≤ R
  R-lo = omega (arith, root_lo A c lo hi even)

  -- the halfway points above and below R
  over : A < (R + R + 1) * (R + R + 1)
  over = lt_of_lt_of_le (whole_is A).1 (square_le (omega arith))

  under : (R + R - 1) * (R + R - 1) < A
  under = go (parity (whole_root A))
    where
      go : (whole_root A ≡ whole_root A / 2 + whole_root A / 2) ⊎ (whole_root A ≡ whole_root A / 2 + whole_root A / 2 + 1) → (R + R - 1) * (R + R - 1) < A
      go (inl e) = lt_of_lt_of_le (square_lt (omega (arith, root_lo A c lo hi even))) (whole_is A).0
      go (inr e) =
          let q : whole_root A ≡ R + R - 1 = omega arith in
          subst (λ (x : ℕ). x * x < A) q (strict A c lo hi even (whole_root A / 2) e)

  -- a sum below a halfway point whose square is at most n
  below-le : (s x : ℕ) → s ≤ x * K → x * x < A → s * s < 4 * n
  below-le s x h l =
      lt_of_le_of_lt (square_le h) (subst (λ (y : ℕ). y < 4 * n) (sym (halfway A c lo hi even x)) (mul-lt-mul_of_pos_left (mul-lt-mul_of_pos_right l square_pos) (lit< tt)))

  below-lt : (s x : ℕ) → s < x * K → x * x ≤ A → s * s < 4 * n
  below-lt s x h l =
      lt_of_lt_of_le (square_lt h) (subst (λ (y : ℕ). y ≤ 4 * n) (sym (halfway A c lo hi even x)) (mul-le-mul_left 4 (mul-le-mul_right (2 ^ c * 2 ^ c) l)))

  above-le : (s x : ℕ) → x * K ≤ s → A < x * x → 4 * n < s * s
  above-le s x h l =
      lt_of_lt_of_le (subst (λ (y : ℕ). 4 * n < y) (sym (halfway A c lo hi even x)) (mul-lt-mul_of_pos_left (mul-lt-mul_of_pos_right l square_pos) (lit< tt))) (square_le h)

  -- b is a multiple of K, if it has as many digits as R * K
  pub near : (b : ℕ) → (2 ^ 23 * K ≤ b → (B : ℕ) × (b ≡ B * K)) → Nearer n (R * K) b
  near b grid = (less, more)
    where
      more : R * K < b → 4 * n < (R * K + b) * (R * K + b)
      more h =
          let g = grid (le_trans (mul-le-mul_right K R-lo) (le_of_lt h)) in
          let l : R < g.0 = lt_of_mul-lt-mul_right K (subst (λ (y : ℕ). R * K < y) g.1 h) in
          let s : (R + R + 1) * K ≤ R * K + b = le_trans (mul-le-mul_right K (omega arith)) (le_of_eq (add-mul R g.0 K ∙ ap (λ (y : ℕ). R * K + y) (sym g.1))) in
          above-le (R * K + b) (R + R + 1) s over

      -- b is at most B * K, and B is below R
      under-by : (B : ℕ) → b ≤ B * K → B < R → (R * K + b) * (R * K + b) < 4 * n
      under-by B h l =
          let s : R * K + b ≤ (R + R - 1) * K = le_trans (omega arith) (le_trans (le_of_eq (sym (add-mul R B K))) (mul-le-mul_right K (omega arith))) in
          below-le (R * K + b) (R + R - 1) s under

      less : b < R * K → (R * K + b) * (R * K + b) < 4 * n
      less h = go (dec_le (2 ^ 23 * K) b)
        where
          go : Dec (2 ^ 23 * K ≤ b) → (R * K + b) * (R * K + b) < 4 * n
          go (yes l) =
              let g = grid l in
              under-by g.0 (le_of_eq g.1) (lt_of_mul-lt-mul_right K (subst (λ (y : ℕ). y < R * K) g.1 h))
          go (no f) = split (eq-or-lt_of_le R-lo)
            where
              split : (2 ^ 23 ≡ R) ⊎ (2 ^ 23 < R) → (R * K + b) * (R * K + b) < 4 * n
              split (inr l) = under-by (2 ^ 23) (le_of_lt (lt_of_not-le f)) l
              split (inl e) =
                  let s : R * K + b < (R + R) * K = lt_of_lt_of_le (omega arith) (le_of_eq (sym (add-mul R R K))) in
                  below-lt (R * K + b) (R + R) s (subst (λ (y : ℕ). (y + y) * (y + y) ≤ A) e lo)

-- ---- among the values

units_unique : (x : Float) (a b : ℕ) → HasValue x false a (2 ^ 149) → HasValue x false b (2 ^ 149) → a ≡ b
units_unique nan a b h k = absurd h
units_unique (inf s) a b h k = absurd h
units_unique (fin s m e) a b h k = eq_of_mul-eq-mul_right (down e) (down_pos e) a b (sym h.1 ∙ k.1)

-- a finite pattern is m * 2 ^ (e - 1) units
abbrev Parts : ℕ → Type 0
Parts t = (m : ℕ) × (e : ℕ) × (m < 2 ^ 24) × (0 < e) × (e < 255) × HasValue (of_bits binary32 t) false (m * 2 ^ (e - 1)) (2 ^ 149) × (0 < t → 0 < m)

parts : (t : ℕ) → t < 0x7f80_0000 → Parts t
parts t h = go (dec_le (2 ^ 23) t)
  where
    go : Dec (2 ^ 23 ≤ t) → Parts t
    go (yes l) = (t % 2 ^ 23 + 2 ^ 23, t / 2 ^ 23, omega arith, omega arith, omega arith, normal t l h, omega arith)
    go (no f) = (t, 1, omega arith, omega arith, omega arith, subnormal t (lt_of_not-le f), λ z. z)

-- with at most 24 digits, a number of 24 + j or more is a multiple of 2 ^ j
multiple : (m x j : ℕ) → m < 2 ^ 24 → 2 ^ 23 * 2 ^ j ≤ m * 2 ^ x → (B : ℕ) × (m * 2 ^ x ≡ B * 2 ^ j)
multiple m x j h l =
    let k : j ≤ x = le_of_suc-le-suc (lt_of_not-le (λ (g : suc x ≤ j). not-le_of_lt (shl_lt 24 x h) (le_trans (pow_mono (deep x j g)) (le_trans (le_of_eq (pow-add 2 23 j)) l)))) in
    let e : x - j + j ≡ x = omega arith in
    (m * 2 ^ (x - j), ap (λ (y : ℕ). m * 2 ^ y) (sym e) ∙ ap (λ (y : ℕ). m * y) (pow-add 2 (x - j) j) ∙ sym (mul_assoc m (2 ^ (x - j)) (2 ^ j)))
  where
    deep : (y i : ℕ) → suc y ≤ i → 24 + y ≤ 23 + i
    deep y i g = omega arith

on_grid : (y : Float) (b j : ℕ) → T (fits binary32 y) → HasValue y false b (2 ^ 149) → 2 ^ 23 * 2 ^ j ≤ b → (B : ℕ) × (b ≡ B * 2 ^ j)
on_grid y b j f h l =
    let own = of_bits-to_bits binary32 y f in
    let t = to_bits binary32 y in
    let v : HasValue (of_bits binary32 t) false b (2 ^ 149) = subst (λ (z : Float). HasValue z false b (2 ^ 149)) (sym own) h in
    let p = parts t (finite_pattern t b (2 ^ 149) v) in
    let e : b ≡ p.0 * 2 ^ (p.1 - 1) = units_unique (of_bits binary32 t) b (p.0 * 2 ^ (p.1 - 1)) v p.5 in
    let g = multiple p.0 (p.1 - 1) j p.2 (subst (λ (z : ℕ). 2 ^ 23 * 2 ^ j ≤ z) e l) in
    (g.0, e ∙ g.1)

-- ---- the theorem

zero-is-not : T (positive c0_0) → ⊥
unfolding of_bits
zero-is-not h = h

pattern_pos : (x : Float) → T (fits binary32 x) → T (positive x) → 0 < to_bits binary32 x
pattern_pos x f p =
    elim (eq-zero-or-pos (to_bits binary32 x)) [
      | inl z ↦ absurd (zero-is-not (subst (λ (v : Float). T (positive v)) (sym (of_bits-to_bits binary32 x f) ∙ ap (of_bits binary32) z) p))
      | inr q ↦ q
    ]

root_nearest : (x : Float) → T (fits binary32 x) → T (positive x) → NearestRoot x (root_of x)
root_nearest x f q =
    let own = of_bits-to_bits binary32 x f in
    let t = to_bits binary32 x in
    let finite : t < 0x7f80_0000 = finite_pattern t (num x) (den x) (subst (λ (z : Float). HasValue z false (num x) (den x)) (sym own) (own_value x q)) in
    let p = parts t finite in
    let m = p.0 in
    let e = p.1 in
    let m0 : 0 < m = p.6 (pattern_pos x f q) in
    let v : HasValue x false (m * 2 ^ (e - 1)) (2 ^ 149) = subst (λ (z : Float). HasValue z false (m * 2 ^ (e - 1)) (2 ^ 149)) own p.5 in
    at x m e m0 p.2 p.3 p.4 v
  where
    at : (x : Float) (m e : ℕ) → 0 < m → m < 2 ^ 24 → 0 < e → e < 255 → HasValue x false (m * 2 ^ (e - 1)) (2 ^ 149) → NearestRoot x (root_of x)
    at x m e m0 m24 e0 e255 v =
        let k : e - 1 + 149 ≡ e + 148 = omega arith in
        let M = A m e m0 m24 e0 e255 in
        let j = c m e m0 m24 e0 e255 in
        let l = lo m e m0 m24 e0 e255 in
        let h = hi m e m0 m24 e0 e255 in
        let ev = even m e m0 m24 e0 e255 in
        let r = (whole_root M + 1) / 2 in
        let units-are : m * 2 ^ (e - 1) * 2 ^ 149 ≡ m * 2 ^ (e + 148) = mul_assoc m (2 ^ (e - 1)) (2 ^ 149) ∙ ap (λ (y : ℕ). m * y) (sym (pow-add 2 (e - 1) 149)) ∙ ap (λ (y : ℕ). m * 2 ^ y) k in
        let n-is : m * 2 ^ (e - 1) * 2 ^ 149 ≡ M * (2 ^ j * 2 ^ j) = units-are ∙ sym (same m e m0 m24 e0 e255) in
        let root_is : root_of x ≡ nearest_root (m * 2 ^ (e + 148)) = root_of_units x (m * 2 ^ (e - 1)) v ∙ ap nearest_root units-are in
        let value : HasValue (root_of x) false (r * 2 ^ (j + 1)) (2 ^ 149) =
        subst (λ (z : Float). HasValue z false (r * 2 ^ (j + 1)) (2 ^ 149)) (sym (root_is ∙ ap nearest_root (sym (same m e m0 m24 e0 e255)) ∙ nearest_of M j l h ev))
        (units_val binary32 false r (j + 1) (under_top r (j + 1) (omega (arith, root_lo M j l h ev)) (omega (arith, root_hi M j l h ev)) (omega (arith, zeros_lo m e m0 m24 e0 e255)))) in (
          m * 2 ^ (e - 1),
          r * 2 ^ (j + 1),
          v,
          value,
          subst (λ (z : Float). T (fits binary32 z)) (bits_are m e m0 m24 e0 e255 ∙ sym root_is) (of_bits-fits binary32 ((whole_root M + 1) / 2 + (power m e / 2 + 50) * 2 ^ 23)),
          (λ y b fy vy. subst (λ (n : ℕ). Nearer n (r * 2 ^ (j + 1)) b) (sym n-is) (near M j l h ev b (on_grid y b (j + 1) fy vy))),
        )

-- ---- and `NearestRoot` says which value that is

tied : (n a b : ℕ) → Nearer n a b → Nearer n b a → a ≡ b
tied n a b p q = le_antisymm (le_of_suc-le-suc (lt_of_not-le (clash n a b p q))) (le_of_suc-le-suc (lt_of_not-le (clash n b a q p)))
  where
    clash : (n a b : ℕ) → Nearer n a b → Nearer n b a → suc b ≤ a → ⊥
    clash n a b p q l = lt_irrefl (4 * n) (lt_of_lt_of_le (subst (λ (s : ℕ). 4 * n < s * s) (add_comm b a) (q.1 l)) (le_of_lt (p.0 l)))

nearest_unique : (x r s : Float) → NearestRoot x r → NearestRoot x s → r ≡ s
nearest_unique x r s p q =
    let N = units_unique x p.0 q.0 p.2 q.2 in
    let e : p.1 ≡ q.1 = tied (p.0 * 2 ^ 149) p.1 q.1 (p.5 s q.1 q.4 q.3) (subst (λ (k : ℕ). Nearer (k * 2 ^ 149) q.1 p.1) (sym N) (q.5 r p.1 p.4 p.3)) in
    let bits : to_bits binary32 r ≡ to_bits binary32 s =
    pattern-is r p.1 p.3 ∙ ap (λ (a : ℕ). (size a - 24) * 2 ^ 23 + a / 2 ^ (size a - 24)) e ∙ sym (pattern-is s q.1 q.3) in
    sym (of_bits-to_bits binary32 r p.4) ∙ ap (of_bits binary32) bits ∙ of_bits-to_bits binary32 s q.4

pub root_is_nearest : RootIsNearest
root_is_nearest x f p = (root_nearest x f p, λ r q. nearest_unique x r (root_of x) q (root_nearest x f p))
