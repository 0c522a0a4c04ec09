-- One digit more of a root, set or not; and the last one. With p for the place, r for the rest and t for twice what is found, 2 * r * p and the
-- square of t are four times the operand. A digit that is set adds 2 * p to t, and so 4 * t * p + 4 * p * p to its square; as much is taken
-- from 4 * r * p. Assumes nothing.
use mathlib.Core.Path.{◌≡◌, refl, ap, ◌∙◌, subst, subst₂}
use Prim.Native.Nat.{ℕ, ◌+◌, ◌-◌, ◌*◌, ◌/◌, ◌≤◌, ◌<◌}
use native.Mathlib.Nat.{mul-add, add-mul, mul_comm, mul-one, one-mul, add_assoc, add_comm, add_left_comm, add-sub_of_le}
use native.Mathlib.Omega.{arith}
use Rattle.num.specs.Root.{whole_root}
use Rattle.num.specs.Private.{Digits}
use Rattle.num.proofs.WholeRoot.{IsRoot, whole_unique}

same_less : (x : ℕ) → x ≡ x - 0
same_less x = omega arith

same_more : (x : ℕ) → x ≡ x + 0
same_more x = omega arith

module _ {a r t : ℕ} (p : ℕ) (g : Digits a r t (2 * p)) where
  sum_is : r * (p + p) + r * (p + p) + t * t ≡ 4 * a
  sum_is = let two : 2 * p ≡ p + p = omega arith in subst (λ (x : ℕ). r * x + r * x + t * t ≡ 4 * a) two g.sum

  pub skip : r < t + p → Digits a (r - 0 + (r - 0)) (t + 0) p
  skip h = subst₂ (λ (u v : ℕ). Digits a (u + u) v p) (same_less r) (same_more t) kept
    where
      spread : (r + r) * p + (r + r) * p + t * t ≡ r * (p + p) + r * (p + p) + t * t
      spread = simp (mul-add, add-mul)

      kept : Digits a (r + r) t p
      kept = record {
        sum = spread ∙ sum_is;
        below = omega arith;
        room = omega arith;
        even = g.even;
      }

  pub take : t + p ≤ r → Digits a (r - (t + p) + (r - (t + p))) (t + (p + p)) p
  take h = record {
    sum = grow (r - (t + p)) ∙ ap (λ (x : ℕ). x * (p + p) + x * (p + p) + t * t) (add-sub_of_le h) ∙ sum_is;
    below = omega arith;
    room = omega arith;
    even = omega arith;
  }
    where
      grow : (d : ℕ) → (d + d) * p + (d + d) * p + (t + (p + p)) * (t + (p + p)) ≡ (t + p + d) * (p + p) + (t + p + d) * (p + p) + t * t
      grow d = simp (mul-add, add-mul, mul_comm, add_assoc, add_comm, add_left_comm) refl

-- all digits are found
pub last : {a r t : ℕ} → Digits a r t 1 → t / 2 ≡ whole_root a
last {a} {r} {t} g = whole_unique a (t / 2) root
  where
    half : t ≡ t / 2 + t / 2
    half = omega (arith, g.even)

    square : (f : ℕ) → (f + f) * (f + f) ≡ 4 * (f * f)
    square f = simp (mul-add, add-mul, add_assoc) (omega arith)

    next : (f : ℕ) → (f + 1) * (f + 1) ≡ f * f + f + f + 1
    next f = simp (mul-add, add-mul, mul-one, one-mul, add_assoc, add_comm, add_left_comm) refl

    all : r + r + 4 * (t / 2 * (t / 2)) ≡ 4 * a
    all = let e : t * t ≡ 4 * (t / 2 * (t / 2)) = ap (λ (x : ℕ). x * x) half ∙ square (t / 2) in omega (arith, g.sum)

    root : IsRoot a (t / 2)
    root = (omega (arith, all), omega (arith, all, next (t / 2), half))
