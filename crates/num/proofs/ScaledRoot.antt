-- m * 2 ^ (e + 148), the square of a root in units, with m scaled by its leading zeros: it is M * 2 ^ 25 times a power of 4, with M of 24 or 25
-- digits, and `root_bits` puts the root together from that of M * 2 ^ 25. Assumes nothing.
use mathlib.Core.Path.{◌≡◌, sym, ap, ◌∙◌}
use Prim.Native.Nat.{ℕ, suc, ◌+◌, ◌-◌, ◌*◌, ◌/◌, ◌%◌, ◌^◌, ◌≤◌, ◌<◌}
use native.Mathlib.Nat.{le_trans, le_of_eq, lt_of_lt_of_le, lt_of_not-le, not-le_of_lt, mul_assoc, mul-le-mul_right, mod-eq_of_lt}
use native.Mathlib.Omega.{arith}
use mathlib.Core.Bool.{false}
use lib.Pow.{pow-add, pow_mono, shl_lt}
use lib.Count.{count_leading_zeros, leading_top}
use lib.Ieee.{binary32, units, of_bits}
use Rattle.num.specs.Root.{whole_root, nearest_root}
use Rattle.num.proofs.RoundedRoot.{root_lo, root_hi, nearest_of}
use Rattle.num.proofs.Patterns.{units_pattern}

abbrev pub power : ℕ → ℕ → ℕ
power m e = e + 33 - count_leading_zeros 32 m

abbrev pub shift : ℕ → ℕ → ℕ
shift m e = count_leading_zeros 32 m - 8 + power m e % 2

module _ (m e : ℕ) (m0 : 0 < m) (m24 : m < 2 ^ 24) (e0 : 0 < e) (e255 : e < 255) where
  top : (j : ℕ) × (count_leading_zeros 32 m + suc j ≡ 32) × (2 ^ j ≤ m) × (m < 2 ^ suc j)
  top = leading_top 32 m m0 (omega arith)

  pub zeros_lo : 8 ≤ count_leading_zeros 32 m
  zeros_lo =
      let t = top in
      let j : t.0 < 24 = lt_of_not-le (λ (g : 24 ≤ t.0). not-le_of_lt m24 (le_trans (pow_mono g) t.2)) in
      let s = t.1 in
      omega arith

  pub zeros_hi : count_leading_zeros 32 m ≤ 31
  zeros_hi = let s = top.1 in omega arith

  pub shift-lt : shift m e < 32
  shift-lt = let a = zeros_lo in let b = zeros_hi in omega arith

  pub scaled_hi : m * 2 ^ shift m e < 2 ^ 25
  scaled_hi =
      let t = top in
      let s = t.1 in
      let a = zeros_lo in
      let l : suc t.0 + shift m e ≤ 25 = omega arith in
      lt_of_lt_of_le (shl_lt (suc t.0) (shift m e) t.3) (pow_mono l)

  scaled_lo : 2 ^ 23 ≤ m * 2 ^ shift m e
  scaled_lo =
      let t = top in
      let s = t.1 in
      let a = zeros_lo in
      let l : 23 ≤ t.0 + shift m e = omega arith in
      le_trans (pow_mono l) (le_trans (le_of_eq (pow-add 2 t.0 (shift m e))) (mul-le-mul_right (2 ^ shift m e) t.2))

  -- nothing is shifted out
  pub scaled-is : m * 2 ^ shift m e % 2 ^ 32 ≡ m * 2 ^ shift m e
  scaled-is = mod-eq_of_lt (let h = scaled_hi in omega arith)

  abbrev pub A : ℕ
  A = m * 2 ^ shift m e * 2 ^ 25

  pub lo : 2 ^ 48 ≤ A
  lo = let h = scaled_lo in omega arith

  pub hi : A < 2 ^ 50
  hi = let h = scaled_hi in omega arith

  pub even : A % 2 ≡ 0
  even = omega arith

  abbrev pub c : ℕ
  c = power m e / 2 + 49

  pub same : A * (2 ^ c * 2 ^ c) ≡ m * 2 ^ (e + 148)
  same =
      let a = zeros_lo in
      let b = zeros_hi in
      let x : shift m e + (25 + (c + c)) ≡ e + 148 = omega arith in
      mul_assoc (m * 2 ^ shift m e) (2 ^ 25) (2 ^ c * 2 ^ c)
      ∙ mul_assoc m (2 ^ shift m e) (2 ^ 25 * (2 ^ c * 2 ^ c))
      ∙ ap (λ (y : ℕ). m * (2 ^ shift m e * (2 ^ 25 * y))) (sym (pow-add 2 c c))
      ∙ ap (λ (y : ℕ). m * (2 ^ shift m e * y)) (sym (pow-add 2 25 (c + c)))
      ∙ ap (λ (y : ℕ). m * y) (sym (pow-add 2 (shift m e) (25 + (c + c))))
      ∙ ap (λ (y : ℕ). m * 2 ^ y) x

  pub whole_hi : whole_root A < 2 ^ 25
  whole_hi = root_hi A c lo hi even

  pub bits_are : of_bits binary32 ((whole_root A + 1) / 2 + (power m e / 2 + 50) * 2 ^ 23) ≡ nearest_root (m * 2 ^ (e + 148))
  bits_are =
      let a = zeros_lo in
      let l = root_lo A c lo hi even in
      let h = whole_hi in
      let k : c + 1 ≡ power m e / 2 + 50 = omega arith in
      units_pattern ((whole_root A + 1) / 2) (power m e / 2 + 50) (omega arith) (omega arith) (omega arith)
      ∙ ap (units binary32 false ((whole_root A + 1) / 2)) (sym k)
      ∙ sym (nearest_of A c lo hi even)
      ∙ ap nearest_root same
