-- What a pattern of binary32 is worth, in units of the smallest positive value, and fractions of the same size. Assumes nothing.
use Prim.Native.Nat.{ℕ, zero, suc, ◌+◌, ◌-◌, ◌*◌, ◌/◌, ◌%◌, ◌^◌, ◌≤◌, ◌<◌}
use mathlib.Core.Path.{◌≡◌, refl, sym, ap, ap₂, ◌∙◌, subst}
use mathlib.Core.Bool.{Bool, true, false, cond, true≢false}
use mathlib.Core.List.{List}
use native.Mathlib.Nat.{mul-one, mul_assoc, mul_right_comm, eq_of_mul-eq-mul_right, zero-lt-suc}
use native.Mathlib.Omega.{arith}
use borrow.Author.Tests.{ne_eqb}
use lib.Dec.{T, leb, eqb, lit<}
use lib.Ieee.{Float, nan, inf, fin, binary32, up, down, odd, of_fields, of_bits, to_bits, fits}
use lib.Ieee.Bits.{of_bits-to_bits}
use lib.Ieee.Exact.{HasValue, odd_sign}
use lib.Ieee.Scale.{finite}
use lib.IntN.{pos, negsuc}
use Rattle.inspect.specs.Decimal.{number, Digits, spelled, whole_of, places_of, negative_of, digits_of, point_of, Exactly}
use Rattle.inspect.specs.Private.{Units, Written}
use Rattle.inspect.specs.declared.decimal.Point.{Point}
use Rattle.inspect.specs.Laws.Decimal.{held_odd, exactly}
use Rattle.inspect.specs.Laws.Digits.{digits_are, ten}
use Rattle.inspect.proofs.Powers.{one_out, odd_fives, never_even, odd_pow}

of_bits_lem : (bits b x t : ℕ) → bits % 2 ^ 31 ≡ b → b / 2 ^ 23 ≡ x → b % 2 ^ 23 ≡ t → of_bits binary32 bits ≡ of_fields binary32 (leb (2 ^ 31) bits) x t
unfolding of_bits
of_bits_lem bits b x t e f g =
    let high : bits % 2 ^ 31 / 2 ^ 23 ≡ x = ap (λ (k : ℕ). k / 2 ^ 23) e ∙ f in
    let low : bits % 2 ^ 23 ≡ t = omega arith in
    cc

field_zero : (s : Bool) (t : ℕ) → of_fields binary32 s 0 t ≡ odd 24 s t 0 149
unfolding of_fields
field_zero s t = refl

field_some : (s : Bool) (x t : ℕ) → x < 254 → of_fields binary32 s (suc x) t ≡ odd 24 s (2 ^ 23 + t) x 149
unfolding of_fields
field_some s x t h = ap (λ (b : Bool). cond b (cond (eqb t 0) (inf s) nan) (odd 24 s (2 ^ 23 + t) x 149)) (ne_eqb (suc x) 255 (omega arith))

pub subnormal : (b : ℕ) → b < 2 ^ 23 → Units b (b * 2 ^ 0)
subnormal b h bits e =
    let s = leb (2 ^ 31) bits in
    let is : of_bits binary32 bits ≡ odd 24 s b 0 149 = of_bits_lem bits b 0 b e (omega arith) (omega arith) ∙ field_zero s b in
    subst (λ (x : Float). HasValue x s (b * 2 ^ 0) (2 ^ 149)) (sym is) (odd_sign 24 s b 0 149)

pub normal : (b : ℕ) → 2 ^ 23 ≤ b → b < 0x7f80_0000 → Units b ((b % 2 ^ 23 + 2 ^ 23) * 2 ^ (b / 2 ^ 23 - 1))
normal b lo hi bits e =
    let s = leb (2 ^ 31) bits in
    let x = b / 2 ^ 23 - 1 in
    let t : 2 ^ 23 + b % 2 ^ 23 ≡ b % 2 ^ 23 + 2 ^ 23 = omega arith in
    let is : of_bits binary32 bits ≡ odd 24 s (b % 2 ^ 23 + 2 ^ 23) x 149 =
    of_bits_lem bits b (suc x) (b % 2 ^ 23) e (omega arith) refl ∙ field_some s x (b % 2 ^ 23) (omega arith) ∙ ap (λ (m : ℕ). odd 24 s m x 149) t in
    subst (λ (y : Float). HasValue y s ((b % 2 ^ 23 + 2 ^ 23) * 2 ^ x) (2 ^ 149)) (sym is) (odd_sign 24 s (b % 2 ^ 23 + 2 ^ 23) x 149)

-- the patterns from the infinity's up are not finite
endless : (s : Bool) (t : ℕ) → finite (of_fields binary32 s 255 t) ≡ false
unfolding of_fields
endless s t = go (eqb t 0)
  where
    go : (b : Bool) → finite (cond b (inf s) nan) ≡ false
    go true = refl
    go false = refl

-- what owning an `f32` tells is that the format holds it; then its bits say all
module _ (x : Float) (held : T (fits binary32 x)) (bits : ℕ) (same : bits ≡ to_bits binary32 x) where
  back : of_bits binary32 bits ≡ x
  back = ap (of_bits binary32) same ∙ of_bits-to_bits binary32 x held

  beyond : 0x7f80_0000 ≤ bits % 2 ^ 31 → finite x ≡ true → ⊥
  beyond h fine =
      let is : of_bits binary32 bits ≡ of_fields binary32 (leb (2 ^ 31) bits) 255 (bits % 2 ^ 31 % 2 ^ 23) = of_bits_lem bits (bits % 2 ^ 31) 255 (bits % 2 ^ 31 % 2 ^ 23) refl (omega arith) refl in
      true≢false (sym fine ∙ ap finite (sym back ∙ is) ∙ endless (leb (2 ^ 31) bits) (bits % 2 ^ 31 % 2 ^ 23))

  -- from units to another fraction of the same size
  rescaled : (n num den : ℕ) → Units (bits % 2 ^ 31) n → num * 2 ^ 149 ≡ n * den → HasValue x (leb (2 ^ 31) bits) num den
  rescaled n num den u e = rescale x (leb (2 ^ 31) bits) n (2 ^ 149) num den (lit< tt) e (subst (λ (y : Float). HasValue y (leb (2 ^ 31) bits) n (2 ^ 149)) back (u bits refl))
    where
      rescale : (x : Float) (s : Bool) (w l num den : ℕ) → 0 < l → num * l ≡ w * den → HasValue x s w l → HasValue x s num den
      rescale nan s w l num den p h v = v
      rescale (inf t) s w l num den p h v = v
      rescale (fin t m e) s w l num den p h v = (
        v.0,
        eq_of_mul-eq-mul_right l p (m * up e * den) (num * down e)
            (mul_right_comm (m * up e) den l ∙ ap (λ (x : ℕ). x * den) v.1 ∙ mul_right_comm w (down e) den ∙ ap (λ (x : ℕ). x * down e) (sym h) ∙ mul_right_comm num l (down e)),
      )

-- ## Digits and a point that say what x is, with no place to spare, are those of x

abbrev Same : Float → Bool → ℕ → ℕ → Type 0
Same x s n r = (s ≡ negative_of x) × (r ≡ places_of x) × (n ≡ whole_of x)

-- m * 10 ^ r with its powers of two apart
apart : (m r : ℕ) → m * 10 ^ r ≡ m * 5 ^ r * 2 ^ r
apart m r = ap (λ (k : ℕ). m * k) (ten r) ∙ sym (mul_assoc m (2 ^ r) (5 ^ r)) ∙ mul_right_comm m (2 ^ r) (5 ^ r)

same : (x : Float) → T (fits binary32 x) → (s : Bool) (n r : ℕ) → HasValue x s n (10 ^ r) → (0 < r → n % 2 ≡ 1) → Same x s n r
unfolding negative_of places_of whole_of
same nan h s n r v o = elim v [ ]
same (inf _) h s n r v o = elim v [ ]
same (fin t m (pos k)) h s n zero v o = (sym v.0, refl, sym (mul-one n) ∙ sym v.1 ∙ mul-one (m * 2 ^ k))
same (fin t m (pos k)) h s n (suc r) v o =
    absurd (never_even n (m * 2 ^ k * 5 ^ suc r * 2 ^ r) (o (zero-lt-suc r)) (sym (mul-one n) ∙ sym v.1 ∙ apart (m * 2 ^ k) (suc r) ∙ one_out (m * 2 ^ k * 5 ^ suc r) r))
same (fin t m (negsuc k)) h s n zero v o =
    absurd (never_even m (n * 2 ^ k) (held_odd binary32 t m k h) (sym (mul-one m) ∙ sym (mul-one (m * 1)) ∙ v.1 ∙ one_out n k))
same (fin t m (negsuc k)) h s n (suc r) v o =
    let e = odd_pow (m * 5 ^ suc r) n (suc r) (suc k) (odd_fives m (suc r) (held_odd binary32 t m k h)) (o (zero-lt-suc r))
    (sym (apart m (suc r)) ∙ ap (λ (z : ℕ). z * 10 ^ suc r) (sym (mul-one m)) ∙ v.1) in
    (sym v.0, e.1, sym e.0 ∙ ap (λ (z : ℕ). m * 5 ^ z) e.1)

-- what is not finite counts as 0
not_finite : (x : Float) → (finite x ≡ true → ⊥) → Same x false 0 0
unfolding negative_of places_of whole_of
not_finite nan h = (refl, refl, refl)
not_finite (inf s) h = (refl, refl, refl)
not_finite (fin s m e) h = absurd (h refl)

abbrev point : Bool → ℕ → Point
point s r = record { negative = s; places = r }

told : (x : Float) {s : Bool} {r : ℕ} {ds : List ℕ} → Digits ds → Same x s (number ds) r → (point s r ≡ point_of x) × (ds ≡ digits_of x)
told x d e = (ap₂ point e.0 e.1, digits_are d ∙ ap (spelled 150) e.2)

module _ (x : Float) (held : T (fits binary32 x)) (bits : ℕ) (same_bits : bits ≡ to_bits binary32 x) {ds : List ℕ} where
  pub told-zero : 0x7f80_0000 ≤ bits % 2 ^ 31 → Digits ds → number ds ≡ 0 → (point false 0 ≡ point_of x) × (ds ≡ digits_of x)
  told-zero high d none =
      let zeros = not_finite x (beyond x held bits same_bits high) in
      told x d (zeros.0, zeros.1, none ∙ zeros.2)

  pub told_units : (n r : ℕ) → Units (bits % 2 ^ 31) n → Written n r ds → (point (leb (2 ^ 31) bits) r ≡ point_of x) × (ds ≡ digits_of x)
  told_units n r u w =
      told x w.digits (same x held (leb (2 ^ 31) bits) (number ds) r (rescaled x held bits same_bits n (number ds) (10 ^ r) u w.size) w.odd)

-- and so they say what x is
pub valued : (x : Float) → T (fits binary32 x) → (r : Point) (ds : List ℕ) → (r ≡ point_of x) × (ds ≡ digits_of x) → Exactly x r ds
valued x held r ds e = subst (λ (q : Point). Exactly x q ds) (sym e.0) (subst (λ (es : List ℕ). Exactly x (point_of x) es) (sym e.1) (exactly x held))
