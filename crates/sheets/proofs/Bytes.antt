-- Bits and bytes: what the bits of four bytes write, and 24 of them. Assumes nothing.
use Prim.Native.Nat.{ℕ, zero, suc, ◌+◌, ◌*◌, ◌-◌, ◌/◌, ◌%◌, ◌^◌, ◌<◌, ◌≤◌}
use native.Mathlib.Omega.{arith}
use native.Mathlib.Nat.{add_assoc, add-zero, add-suc, mul_assoc, pow-suc, div-div-eq-div-mul}
use mathlib.Core.List.{List}
use mathlib.Core.Path.{◌≡◌, sym, ap, ap₂, ◌∙◌}
use lib.ListN.{get_or}
use Rattle.cards.specs.Bits.{bit_at, value_at}
use Rattle.cards.proofs.Bits.{value_at_lt}

shift_suc : (a k : ℕ) → a * 2 ^ suc k ≡ a * 2 ^ k * 2
shift_suc a k = ap (λ (x : ℕ). a * x) (pow-suc 2 k) ∙ sym (mul_assoc a (2 ^ k) 2)

half : (y : ℕ) → y / 2 * 2 + y % 2 ≡ y
half y = omega arith

module _ (sheet : List ℕ) where
  -- j bits, and then k more
  pub split : (p j k : ℕ) → value_at sheet p (j + k) ≡ value_at sheet p j * 2 ^ k + value_at sheet (p + j) k
  unfolding value_at
  split p j zero = ap (value_at sheet p) (add-zero j) ∙ omega arith
  split p j (suc k) =
      let e : value_at sheet p (j + suc k) ≡ value_at sheet p (j + k) * 2 + bit_at sheet (p + (j + k)) = ap (value_at sheet p) (add-suc j k) in
      e ∙ omega (arith, split p j k, shift_suc (value_at sheet p j) k, ap (bit_at sheet) (add_assoc p j k))

  -- a bit of byte b
  bit : (b i : ℕ) → i < 8 → bit_at sheet (8 * b + i) ≡ get_or sheet b 0 / 2 ^ (7 - i) % 2
  bit b i h = ap₂ (λ (q r : ℕ). get_or sheet q 0 / 2 ^ (7 - r) % 2) (omega arith) (omega arith)

  -- its first i bits write it halved as often as there are bits after them
  first : (b : ℕ) → get_or sheet b 0 < 256 → (i : ℕ) → i ≤ 8 → value_at sheet (8 * b) i ≡ get_or sheet b 0 / 2 ^ (8 - i)
  unfolding value_at
  first b h zero l = omega (arith, h)
  first b h (suc i) l =
      let x : ℕ = get_or sheet b 0 in
      let one_more : 8 - i ≡ suc (7 - i) = omega (arith, l) in
      let less : 7 - i ≡ 8 - suc i = omega arith in
      let halved : x / 2 ^ (8 - i) ≡ x / 2 ^ (7 - i) / 2 =
      ap (λ (k : ℕ). x / 2 ^ k) one_more ∙ ap (λ (m : ℕ). x / m) (pow-suc 2 (7 - i)) ∙ sym (div-div-eq-div-mul x (2 ^ (7 - i)) 2) in
      ap₂ (λ (v c : ℕ). v * 2 + c) (first b h i (omega (arith, l)) ∙ halved) (bit b i (omega (arith, l))) ∙ half (x / 2 ^ (7 - i))
      ∙ ap (λ (k : ℕ). x / 2 ^ k) less

  pub byte : (b : ℕ) → get_or sheet b 0 < 256 → value_at sheet (8 * b) 8 ≡ get_or sheet b 0
  byte b h = first b h 8 (omega arith) ∙ omega arith

  -- byte k from b on
  later : (b k : ℕ) → get_or sheet (b + k) 0 < 256 → (p : ℕ) → p ≡ 8 * (b + k) → value_at sheet p 8 ≡ get_or sheet (b + k) 0
  later b k h p e = ap (λ (q : ℕ). value_at sheet q 8) e ∙ byte (b + k) h

  -- the bits of four bytes
  pub four : (b : ℕ) → get_or sheet b 0 < 256 → get_or sheet (b + 1) 0 < 256 → get_or sheet (b + 2) 0 < 256 → get_or sheet (b + 3) 0 < 256
      → value_at sheet (8 * b) 32 ≡ get_or sheet b 0 * 16777216 + get_or sheet (b + 1) 0 * 65536 + get_or sheet (b + 2) 0 * 256 + get_or sheet (b + 3) 0
  four b h0 h1 h2 h3 =
      omega (
        arith,
        split (8 * b) 8 24,
        split (8 * b + 8) 8 16,
        split (8 * b + 8 + 8) 8 8,
        byte b h0,
        later b 1 h1 (8 * b + 8) (omega arith),
        later b 2 h2 (8 * b + 8 + 8) (omega arith),
        later b 3 h3 (8 * b + 8 + 8 + 8) (omega arith),
      )

  -- 24 bits of them that stand before the last t
  inside : (b j t p : ℕ) → p ≡ 8 * b + j → value_at sheet (8 * b) 32 / 2 ^ t % 16777216 ≡ value_at sheet (8 * b + j) 24
      → value_at sheet (8 * b) 32 / 2 ^ t % 16777216 ≡ value_at sheet p 24
  inside b j t p e h = h ∙ ap (λ (q : ℕ). value_at sheet q 24) (sym e)

  pub middle : (b t : ℕ) → t < 8 → value_at sheet (8 * b) 32 / 2 ^ t % 16777216 ≡ value_at sheet (8 * b + 8 - t) 24
  middle b zero h = inside b 8 0 _ (omega arith) (omega (arith, value_at_lt sheet (8 * b + 8) 24, value_at_lt sheet (8 * b + 8 + 24) 0, split (8 * b) 8 24, split (8 * b + 8) 24 0))
  middle b (suc zero) h = inside b 7 1 _ (omega arith) (omega (arith, value_at_lt sheet (8 * b + 7) 24, value_at_lt sheet (8 * b + 7 + 24) 1, split (8 * b) 7 25, split (8 * b + 7) 24 1))
  middle b (suc (suc zero)) h = inside b 6 2 _ (omega arith) (omega (arith, value_at_lt sheet (8 * b + 6) 24, value_at_lt sheet (8 * b + 6 + 24) 2, split (8 * b) 6 26, split (8 * b + 6) 24 2))
  middle b (suc (suc (suc zero))) h = inside b 5 3 _ (omega arith) (omega (arith, value_at_lt sheet (8 * b + 5) 24, value_at_lt sheet (8 * b + 5 + 24) 3, split (8 * b) 5 27, split (8 * b + 5) 24 3))
  middle b (suc (suc (suc (suc zero)))) h = inside b 4 4 _ (omega arith) (omega (arith, value_at_lt sheet (8 * b + 4) 24, value_at_lt sheet (8 * b + 4 + 24) 4, split (8 * b) 4 28, split (8 * b + 4) 24 4))
  middle b (suc (suc (suc (suc (suc zero))))) h = inside b 3 5 _ (omega arith) (omega (arith, value_at_lt sheet (8 * b + 3) 24, value_at_lt sheet (8 * b + 3 + 24) 5, split (8 * b) 3 29, split (8 * b + 3) 24 5))
  middle b (suc (suc (suc (suc (suc (suc zero)))))) h = inside b 2 6 _ (omega arith) (omega (arith, value_at_lt sheet (8 * b + 2) 24, value_at_lt sheet (8 * b + 2 + 24) 6, split (8 * b) 2 30, split (8 * b + 2) 24 6))
  middle b (suc (suc (suc (suc (suc (suc (suc zero))))))) h = inside b 1 7 _ (omega arith) (omega (arith, value_at_lt sheet (8 * b + 1) 24, value_at_lt sheet (8 * b + 1 + 24) 7, split (8 * b) 1 31, split (8 * b + 1) 24 7))
  middle b (suc (suc (suc (suc (suc (suc (suc (suc t)))))))) h = absurd (omega (arith, h))

  -- as the code works them out
  pub word-is : (b t x0 x1 x2 x3 : ℕ) → t < 8 → (x0 ≡ get_or sheet b 0) × (x0 ≤ 255) → (x1 ≡ get_or sheet (b + 1) 0) × (x1 ≤ 255)
      → (x2 ≡ get_or sheet (b + 2) 0) × (x2 ≤ 255) → (x3 ≡ get_or sheet (b + 3) 0) × (x3 ≤ 255)
      → (x0 * 16777216 + x1 * 65536 + x2 * 256 + x3) / 2 ^ t % 16777216 ≡ value_at sheet (8 * b + 8 - t) 24
  word-is b t x0 x1 x2 x3 h (e0, l0) (e1, l1) (e2, l2) (e3, l3) =
      let four_are : x0 * 16777216 + x1 * 65536 + x2 * 256 + x3 ≡ value_at sheet (8 * b) 32 =
      omega (arith, four b (omega (arith, e0, l0)) (omega (arith, e1, l1)) (omega (arith, e2, l2)) (omega (arith, e3, l3)), e0, e1, e2, e3) in
      ap (λ (v : ℕ). v / 2 ^ t % 16777216) four_are ∙ middle b t h
