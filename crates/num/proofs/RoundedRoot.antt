-- `nearest_root` of an even A of 49 or 50 digits times a power of 4. Q = whole_root A has one digit more than the format keeps, so the
-- nearest value is (Q + 1) / 2: the halfway point is Q where Q is odd, and the root lies above it, since A is even and no square of Q. Assumes nothing.
use mathlib.Core.Path.{◌≡◌, refl, sym, ap, ◌∙◌, subst}
use mathlib.Core.Logic.{◌⊎◌, inl, inr}
use Prim.Native.Nat.{ℕ, zero, suc, ◌+◌, ◌-◌, ◌*◌, ◌/◌, ◌%◌, ◌^◌, ◌≤◌, ◌<◌}
use native.Mathlib.Nat.{le_trans, le_of_eq, lt_of_lt_of_le, mul_assoc, mul_comm, mul-le-mul_left, mul-le-mul_right, mul-lt-mul_of_pos_right}
use native.Mathlib.Nat.{mul-lt-mul_of_pos_left, mul-mul-mul_comm, mul-pos, mul-add, add-mul, mul-one, one-mul, add_assoc, add_comm, add_left_comm}
use native.Mathlib.Nat.{div-eq_of_lt-le}
use native.Mathlib.Omega.{arith}
use mathlib.Core.Bool.{Bool, true, false, cond}
use lib.Dec.{ltb, lit<}
use lib.Pow.{pow-add, pow_pos, shr-shr}
use lib.Ieee.{Float, binary32, size, units}
use borrow.Author.Tests.{lt-ltb, le-ltb}
use Rattle.num.specs.Root.{whole_root, nearest_root}
use Rattle.num.proofs.WholeRoot.{whole_is, le-whole, whole-lt}
use Rattle.num.proofs.Patterns.{size_is}

odd_square : (q : ℕ) → (q + q + 1) * (q + q + 1) ≡ (q * q + q * q + q + q) + (q * q + q * q + q + q) + 1
odd_square q = simp (mul-add, add-mul, mul-one, one-mul, add_assoc, add_comm, add_left_comm) refl

pub parity : (q : ℕ) → (q ≡ q / 2 + q / 2) ⊎ (q ≡ q / 2 + q / 2 + 1)
parity q = go (q % 2) refl
  where
    go : (r : ℕ) → q % 2 ≡ r → (q ≡ q / 2 + q / 2) ⊎ (q ≡ q / 2 + q / 2 + 1)
    go zero e = inl (omega arith)
    go (suc r) e = inr (omega arith)

-- `nearest_root`, from its q and its k on
abbrev rounded : ℕ → ℕ → ℕ → Float
rounded n q k = units binary32 false (cond (ltb ((2 * q + 1) * 2 ^ k * ((2 * q + 1) * 2 ^ k)) (4 * n)) (q + 1) q) k

nearest_is : (n : ℕ) → nearest_root n ≡ rounded n (whole_root n / 2 ^ (size (whole_root n) - 24)) (size (whole_root n) - 24)
unfolding nearest_root
nearest_is n = refl

module _ (A c : ℕ) (lo : 2 ^ 48 ≤ A) (hi : A < 2 ^ 50) (even : A % 2 ≡ 0) where
  abbrev P : ℕ
  P = 2 ^ c

  abbrev n : ℕ
  n = A * (P * P)

  PP : 0 < P * P
  PP = mul-pos (pow_pos c) (pow_pos c)

  pub root_lo : 2 ^ 24 ≤ whole_root A
  root_lo = le-whole A (2 ^ 24) lo

  pub root_hi : whole_root A < 2 ^ 25
  root_hi = whole-lt A (2 ^ 25) hi

  whole_lo : whole_root A * P ≤ whole_root n
  whole_lo = le-whole n (whole_root A * P) (le_trans (le_of_eq (mul-mul-mul_comm (whole_root A) P (whole_root A) P)) (mul-le-mul_right (P * P) (whole_is A).0))

  whole_hi : whole_root n < (whole_root A + 1) * P
  whole_hi =
      whole-lt n ((whole_root A + 1) * P)
      (lt_of_lt_of_le (mul-lt-mul_of_pos_right (whole_is A).1 PP) (le_of_eq (sym (mul-mul-mul_comm (whole_root A + 1) P (whole_root A + 1) P))))

  cut : whole_root n / 2 ^ (c + 1) ≡ whole_root A / 2
  cut = sym (shr-shr (whole_root n) c 1) ∙ ap (λ (x : ℕ). x / 2) (div-eq_of_lt-le P whole_lo whole_hi)

  digits : size (whole_root n) ≡ suc (24 + c)
  digits =
      let e : 25 + c ≡ suc (24 + c) = omega arith in
      let next : whole_root A + 1 ≤ 2 ^ 25 = omega (arith, root_hi) in
      size_is (24 + c) (whole_root n)
      (le_trans (le_of_eq (pow-add 2 24 c)) (le_trans (mul-le-mul_right P root_lo) whole_lo))
      (subst (λ (k : ℕ). whole_root n < 2 ^ k) e (lt_of_lt_of_le whole_hi (le_trans (mul-le-mul_right P next) (le_of_eq (sym (pow-add 2 25 c))))))

  dropped : size (whole_root n) - 24 ≡ c + 1
  dropped = omega (arith, digits)

  -- a halfway point's square
  pub halfway : (x : ℕ) → x * 2 ^ (c + 1) * (x * 2 ^ (c + 1)) ≡ 4 * (x * x * (P * P))
  halfway x =
      mul-mul-mul_comm x (2 ^ (c + 1)) x (2 ^ (c + 1))
      ∙ ap (λ (y : ℕ). x * x * y) (ap (λ (y : ℕ). y * y) (pow-add 2 c 1) ∙ mul-mul-mul_comm P 2 P 2)
      ∙ sym (mul_assoc (x * x) (P * P) 4)
      ∙ mul_comm (x * x * (P * P)) 4

  abbrev test : ℕ → Bool
  test x = ltb (x * 2 ^ (c + 1) * (x * 2 ^ (c + 1))) (4 * n)

  above : (x : ℕ) → x * x < A → test x ≡ true
  above x h =
      lt-ltb (x * 2 ^ (c + 1) * (x * 2 ^ (c + 1))) (4 * n)
      (subst (λ (y : ℕ). y < 4 * n) (sym (halfway x)) (mul-lt-mul_of_pos_left (mul-lt-mul_of_pos_right h PP) (lit< tt)))

  under : (x : ℕ) → A ≤ x * x → test x ≡ false
  under x h =
      le-ltb (x * 2 ^ (c + 1) * (x * 2 ^ (c + 1))) (4 * n)
      (subst (λ (y : ℕ). 4 * n ≤ y) (sym (halfway x)) (mul-le-mul_left 4 (mul-le-mul_right (P * P) h)))

  -- Q is odd: so is its square, and A is above it
  pub strict : (q : ℕ) → whole_root A ≡ q + q + 1 → whole_root A * whole_root A < A
  strict q e =
      let s : whole_root A * whole_root A ≡ (q * q + q * q + q + q) + (q * q + q * q + q + q) + 1 = ap (λ (x : ℕ). x * x) e ∙ odd_square q in
      let l = (whole_is A).0 in
      omega arith

  pick : cond (test (2 * (whole_root A / 2) + 1)) (whole_root A / 2 + 1) (whole_root A / 2) ≡ (whole_root A + 1) / 2
  pick = go (parity (whole_root A))
    where
      go : (whole_root A ≡ whole_root A / 2 + whole_root A / 2) ⊎ (whole_root A ≡ whole_root A / 2 + whole_root A / 2 + 1)
          → cond (test (2 * (whole_root A / 2) + 1)) (whole_root A / 2 + 1) (whole_root A / 2) ≡ (whole_root A + 1) / 2
      go (inl e) =
          let h : 2 * (whole_root A / 2) + 1 ≡ whole_root A + 1 = omega arith in
          let r : whole_root A / 2 ≡ (whole_root A + 1) / 2 = omega arith in
          ap (λ (b : Bool). cond b (whole_root A / 2 + 1) (whole_root A / 2)) (ap test h ∙ under (whole_root A + 1) (omega (arith, (whole_is A).1))) ∙ r
      go (inr e) =
          let h : 2 * (whole_root A / 2) + 1 ≡ whole_root A = omega arith in
          let r : whole_root A / 2 + 1 ≡ (whole_root A + 1) / 2 = omega arith in
          ap (λ (b : Bool). cond b (whole_root A / 2 + 1) (whole_root A / 2)) (ap test h ∙ above (whole_root A) (strict (whole_root A / 2) e)) ∙ r

  pub nearest_of : nearest_root n ≡ units binary32 false ((whole_root A + 1) / 2) (c + 1)
  nearest_of =
      nearest_is n
      ∙ ap (λ (k : ℕ). rounded n (whole_root n / 2 ^ k) k) dropped
      ∙ ap (λ (q : ℕ). rounded n q (c + 1)) cut
      ∙ ap (λ (r : ℕ). units binary32 false r (c + 1)) pick
