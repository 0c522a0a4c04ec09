-- The binary32 nearest to whole + N / P, by drawing bits. Doubling N carries the next bit of the fraction out of it: after k bits a * P + N is the first sum times 2 ^ k.
-- With 24 bits in a, or with k = 149, `round` drops 149 - k digits and keeps a; and the rest N decides how a is rounded. The value then has the pattern that the program
-- makes, because a sign and a size have one value. Assumes nothing.
use Prim.Native.Nat.{ℕ, zero, suc, ◌+◌, ◌-◌, ◌*◌, ◌/◌, ◌%◌, ◌^◌, ◌≤◌, ◌<◌, compare, Ordering}
use mathlib.Core.Path.{◌≡◌, refl, sym, ap, ◌∙◌, subst}
use mathlib.Core.Bool.{Bool, true, false, cond, ◌&&◌}
use mathlib.Core.Logic.{◌⊎◌, inl, inr}
use mathlib.Core.List.{List, [], ◌∷◌}
use native.Mathlib.Nat.{add-mul, mul-one, mul_assoc, mul_comm, mul_right_comm, mul-pos, mul-le-mul, mul-le-mul_right, mul-lt-mul_of_pos_right, pow-suc, pow-succ', le_trans}
use native.Mathlib.Nat.{le_of_eq, le_of_lt, le-add_right, lt_of_le_of_lt, lt_of_lt_of_le, lt_of_not-le, not-le_of_lt, lt_irrefl, le-div_iff_mul-le, div-lt_iff_lt-mul}
use native.Mathlib.Numerals.{add-one}
use native.Mathlib.Omega.{arith}
use borrow.Author.Tests.{ltb-true, ltb-false, le-leb, lt-leb, ne_eqb}
use lib.Arith.{digits_lt, digits_div, digits_mod}
use lib.Dec.{T, is_le, compare_is_eq, leb, ltb, eqb, le→leb, leb→le, eqb→eq, eqb_refl, lit<}
use lib.Ieee.{Float, binary32, size, nearest, units, round, of_bits}
use lib.Ieee.Bits.{of_bits-fits}
use lib.Ieee.Digits.{size-lt, size-le}
use lib.Ieee.Exact.{HasValue, units_val}
use lib.Ieee.Fits.{nearest-le, round_is, round-fits}
use lib.Ieee.Nearest.{closest, closest_same, nearest-ge}
use lib.Pow.{pow-add, pow_pos, pow_mono}
use Rattle.inspect.specs.Decimal.{number, Digits}
use Rattle.inspect.specs.Private.{Times, Drawn}
use Rattle.inspect.specs.Laws.Digits.{number-below}
use Rattle.inspect.specs.Laws.Decimal.{unique}
use Rattle.inspect.proofs.Values.{subnormal, normal}

-- ## A number is 0 where each digit is

pub zero_none : eqb (number []) 0 ≡ true
unfolding number
zero_none = refl

pub zero_step : (d : ℕ) (ds : List ℕ) → eqb (number (d ∷ ds)) 0 ≡ (eqb d 0 && eqb (number ds) 0)
unfolding number
zero_step d ds = go d (number ds)
  where
    go : (d n : ℕ) → eqb (d + 10 * n) 0 ≡ (eqb d 0 && eqb n 0)
    go zero zero = refl
    go zero (suc n) = ne_eqb (0 + 10 * suc n) 0 (λ e. omega arith) ∙ sym (ne_eqb (suc n) 0 (λ e. omega arith))
    go (suc d) n = ne_eqb (suc d + 10 * n) 0 (λ e. omega arith) ∙ ap (λ (b : Bool). b && eqb n 0) (sym (ne_eqb (suc d) 0 (λ e. omega arith)))

-- ## Drawing bits

pub drawn_none : {whole : ℕ} {ds : List ℕ} → Digits ds → whole < 2 ^ 24 → Drawn whole ds whole 0 ds
drawn_none {whole} {ds} d l = record { digits = d; small = l; few = omega arith; same = sym (mul-one (whole * 10 ^ 150 + number ds)) }

pub drawn_more : {whole : ℕ} {ds : List ℕ} {a k : ℕ} {out : List ℕ} {carry : ℕ} {next : List ℕ} → Drawn whole ds a k out → a < 2 ^ 23 → k < 149
    → Times 2 0 out carry next → Drawn whole ds (2 * a + carry) (k + 1) next
drawn_more {whole} {ds} {a} {k} {out} {carry} {next} d l h t = record {
  digits = t.digits;
  small = twice a carry l t.small;
  few = one_more k h;
  same = step (10 ^ 150) a carry (number out) (number next) (whole * 10 ^ 150 + number ds) (2 ^ k) d.same t.whole ∙ ap (λ (n : ℕ). (whole * 10 ^ 150 + number ds) * n) (sym (pow-suc 2 k)) ∙ ap (λ (n : ℕ). (whole * 10 ^ 150 + number ds) * 2 ^ n) (sym (add-one k));
}
  where
    twice : (a c : ℕ) → a < 2 ^ 23 → c < 2 → 2 * a + c < 2 ^ 24
    twice a c l h = omega arith

    one_more : (k : ℕ) → k < 149 → k + 1 ≤ 149
    one_more k h = omega arith

    step : (p a c n m w t : ℕ) → a * p + n ≡ w * t → m + c * p ≡ n * 2 + 0 → (2 * a + c) * p + m ≡ w * (t * 2)
    step p a c n m w t e f =
        let spread : (2 * a + c) * p ≡ 2 * (a * p) + c * p = add-mul (2 * a) c p ∙ ap (λ (z : ℕ). z + c * p) (mul_assoc 2 a p) in
        let double : w * (t * 2) ≡ w * t * 2 = sym (mul_assoc w t 2) in
        omega arith

-- ## Rounding by the rest

is_lt : (a b : ℕ) → a < b → compare a b ≡ Ordering.lt
is_lt a b h = go (compare a b) (le→leb a b (le_of_lt h)) (λ t. lt_irrefl b (subst (λ (n : ℕ). n < b) (eqb→eq a b t) h))
  where
    go : (o : Ordering) → T (is_le o) → (T (compare_is_eq o) → ⊥) → o ≡ Ordering.lt
    go Ordering.lt t n = refl
    go Ordering.eq t n = absurd (n tt)
    go Ordering.gt t n = absurd t

is_eq : (a b : ℕ) → a ≡ b → compare a b ≡ Ordering.eq
is_eq a b e = go (compare a b) (subst (λ (n : ℕ). T (eqb a n)) e (eqb_refl a))
  where
    go : (o : Ordering) → T (compare_is_eq o) → o ≡ Ordering.eq
    go Ordering.lt t = absurd t
    go Ordering.eq t = refl
    go Ordering.gt t = absurd t

is_gt : (a b : ℕ) → b < a → compare a b ≡ Ordering.gt
is_gt a b h = go (compare a b) (λ t. not-le_of_lt h (leb→le a b t))
  where
    go : (o : Ordering) → (T (is_le o) → ⊥) → o ≡ Ordering.gt
    go Ordering.lt n = absurd (n tt)
    go Ordering.eq n = absurd (n tt)
    go Ordering.gt n = refl

module _ {ds : List ℕ} {carry : ℕ} {out : List ℕ} (t : Times 2 0 ds carry out) (a : ℕ) where
  abbrev choice : ℕ
  choice = nearest a (compare (number ds * 2) (10 ^ 150))

  pub under-half : carry ≡ 0 → a ≡ choice
  under-half e = sym (ap (nearest a) (is_lt (number ds * 2) (10 ^ 150) (go (10 ^ 150) carry (number out) (number ds) t.whole e (number-below t.digits))))
    where
      go : (p c n m : ℕ) → n + c * p ≡ m * 2 + 0 → c ≡ 0 → n < p → m * 2 < p
      go p zero n m e f l = omega arith
      go p (suc c) n m e f l = absurd (omega arith)

  one : (carry ≡ 0 → ⊥) → number ds * 2 ≡ number out + 10 ^ 150
  one n = go (10 ^ 150) carry (number out) (number ds) t.whole t.small n
    where
      go : (p c n m : ℕ) → n + c * p ≡ m * 2 + 0 → c < 2 → (c ≡ 0 → ⊥) → m * 2 ≡ n + p
      go p zero n m e l f = absurd (f refl)
      go p (suc zero) n m e l f = omega arith
      go p (suc (suc c)) n m e l f = absurd (omega arith)

  pub half : (carry ≡ 0 → ⊥) → number out ≡ 0 → a + a % 2 ≡ choice
  half n z = sym (ap (nearest a) (is_eq (number ds * 2) (10 ^ 150) (one n ∙ ap (λ (k : ℕ). k + 10 ^ 150) z)))

  pub over-half : (carry ≡ 0 → ⊥) → (number out ≡ 0 → ⊥) → a + 1 ≡ choice
  over-half n z = add-one a ∙ sym (ap (nearest a) (is_gt (number ds * 2) (10 ^ 150) (subst (λ (k : ℕ). 10 ^ 150 < k) (sym (one n)) (go (10 ^ 150) (number out) z))))
    where
      go : (p n : ℕ) → (n ≡ 0 → ⊥) → p < n + p
      go p n z = omega arith

-- ## What `round` makes of the fraction w / p

size_gt : (n j : ℕ) → 2 ^ j ≤ n → j < size n
size_gt n j h = lt_of_not-le (λ (g : size n ≤ j). not-le_of_lt (lt_of_lt_of_le (size-lt n) (pow_mono g)) h)

module _ (w p a k n : ℕ) (pp : 0 < p) (small : a < 2 ^ 24) (few : k ≤ 149) (full : a < 2 ^ 23 → k ≡ 149) (same : a * p + n ≡ w * 2 ^ k) (less : n < p) where
  -- how many digits it drops
  abbrev j : ℕ
  j = 149 - k

  abbrev q : ℕ
  q = nearest a (compare (n * 2) p)

  together : (k : ℕ) → k ≤ 149 → k + (149 - k) ≡ 149
  together k h = omega arith

  in_units : w * 2 ^ 149 ≡ (a * p + n) * 2 ^ j
  in_units =
      ap (λ (z : ℕ). w * 2 ^ z) (sym (together k few)) ∙ ap (λ (z : ℕ). w * z) (pow-add 2 k j) ∙ sym (mul_assoc w (2 ^ k) (2 ^ j)) ∙ ap (λ (z : ℕ). z * 2 ^ j) (sym same)

  above : w * 2 ^ 149 / p < 2 ^ (24 + j)
  above =
      (div-lt_iff_lt-mul pp).1
      (subst (λ (z : ℕ). w * 2 ^ 149 < z) (mul_right_comm (2 ^ 24) p (2 ^ j) ∙ ap (λ (z : ℕ). z * p) (sym (pow-add 2 24 j)))
      (subst (λ (z : ℕ). z < 2 ^ 24 * p * 2 ^ j) (sym in_units) (mul-lt-mul_of_pos_right (digits_lt small less) (pow_pos j))))

  under : 2 ^ 23 ≤ a → 2 ^ (23 + j) ≤ w * 2 ^ 149 / p
  under h =
      (le-div_iff_mul-le pp).1
      (le_trans (le_of_eq (ap (λ (z : ℕ). z * p) (pow-add 2 23 j) ∙ mul_right_comm (2 ^ 23) (2 ^ j) p))
      (le_trans (mul-le-mul_right (2 ^ j) (le_trans (mul-le-mul_right p h) (le-add_right (a * p) n))) (le_of_eq (sym in_units))))

  none_dropped : a < 2 ^ 23 → j ≡ 0
  none_dropped h = left k (full h)
    where
      left : (k : ℕ) → k ≡ 149 → 149 - k ≡ 0
      left k e = omega arith

  drops : size (w * 2 ^ 149 / p) - 24 ≡ j
  drops = go (ltb a (2 ^ 23)) refl
    where
      none : (z j : ℕ) → z ≤ 24 + j → j ≡ 0 → z - 24 ≡ j
      none z j h e = omega arith

      some : (z j : ℕ) → z ≤ 24 + j → 23 + j < z → z - 24 ≡ j
      some z j h l = omega arith

      go : (b : Bool) → ltb a (2 ^ 23) ≡ b → size (w * 2 ^ 149 / p) - 24 ≡ j
      go true e = none (size (w * 2 ^ 149 / p)) j (size-le (w * 2 ^ 149 / p) (24 + j) above) (none_dropped (ltb-true a (2 ^ 23) e))
      go false e = some (size (w * 2 ^ 149 / p)) j (size-le (w * 2 ^ 149 / p) (24 + j) above) (size_gt (w * 2 ^ 149 / p) (23 + j) (under (ltb-false a (2 ^ 23) e)))

  keeps : closest (w * 2 ^ 149) (p * 2 ^ j) ≡ q
  keeps =
      closest_same (w * 2 ^ 149) (p * 2 ^ j) (a * p + n) p (mul-pos pp (pow_pos j)) pp
      (ap (λ (z : ℕ). z * p) in_units ∙ mul_assoc (a * p + n) (2 ^ j) p ∙ ap (λ (z : ℕ). (a * p + n) * z) (mul_comm (2 ^ j) p))
      ∙ ap (λ (z : ℕ). nearest z (compare ((a * p + n) % p * 2) p)) (digits_div a less) ∙ ap (λ (z : ℕ). nearest a (compare (z * 2) p)) (digits_mod a less)

  rounds : (s : Bool) → round binary32 s w p ≡ units binary32 s q j
  rounds s =
      round_is binary32 s w p ∙ ap (λ (z : ℕ). units binary32 s (closest (w * 2 ^ 149) (p * 2 ^ z)) z) drops ∙ ap (λ (z : ℕ). units binary32 s z j) keeps

  q-le : q ≤ 2 ^ 24
  q-le = le_trans (nearest-le a (compare (n * 2) p)) small

  j-le : (k : ℕ) → 149 - k ≤ 149
  j-le k = omega arith

  round_has : (s : Bool) → HasValue (round binary32 s w p) s (q * 2 ^ j) (2 ^ 149)
  round_has s =
      subst (λ (x : Float). HasValue x s (q * 2 ^ j) (2 ^ 149)) (sym (rounds s)) (units_val binary32 s q j (lt_of_le_of_lt (mul-le-mul q-le (pow_mono (j-le k))) (lit< tt)))

  -- ## The pattern

  abbrev body : ℕ
  body = j * 2 ^ 23 + q

  -- a significand that is not full stands for itself
  alone : q < 2 ^ 23 → j ≡ 0
  alone h = none_dropped (lt_of_le_of_lt (nearest-ge a (compare (n * 2) p)) h)

  pattern_has : (bits : ℕ) → bits % 2 ^ 31 ≡ body → HasValue (of_bits binary32 bits) (leb (2 ^ 31) bits) (q * 2 ^ j) (2 ^ 149)
  pattern_has bits e = go (ltb q (2 ^ 23)) refl (ltb q (2 ^ 24)) refl
    where
      worth : (m : ℕ) → m ≡ q * 2 ^ j → HasValue (of_bits binary32 bits) (leb (2 ^ 31) bits) m (2 ^ 149) → HasValue (of_bits binary32 bits) (leb (2 ^ 31) bits) (q * 2 ^ j) (2 ^ 149)
      worth m e v = subst (λ (z : ℕ). HasValue (of_bits binary32 bits) (leb (2 ^ 31) bits) z (2 ^ 149)) e v

      low_is : (j q : ℕ) → j ≡ 0 → j * 2 ^ 23 + q ≡ q
      low_is j q e = omega arith

      high_lo : (j q : ℕ) → 2 ^ 23 ≤ q → 2 ^ 23 ≤ j * 2 ^ 23 + q
      high_lo j q h = omega arith

      high_hi : (j q : ℕ) → j ≤ 149 → q ≤ 2 ^ 24 → j * 2 ^ 23 + q < 0x7f80_0000
      high_hi j q h l = omega arith

      lead : (j q : ℕ) → 2 ^ 23 ≤ q → q < 2 ^ 24 → (j * 2 ^ 23 + q) % 2 ^ 23 + 2 ^ 23 ≡ q
      lead j q h l = omega arith

      field : (j q : ℕ) → 2 ^ 23 ≤ q → q < 2 ^ 24 → (j * 2 ^ 23 + q) / 2 ^ 23 - 1 ≡ j
      field j q h l = omega arith

      lead_up : (j q : ℕ) → q ≡ 2 ^ 24 → (j * 2 ^ 23 + q) % 2 ^ 23 + 2 ^ 23 ≡ 2 ^ 23
      lead_up j q e = omega arith

      field_up : (j q : ℕ) → q ≡ 2 ^ 24 → (j * 2 ^ 23 + q) / 2 ^ 23 - 1 ≡ suc j
      field_up j q e = omega arith

      full_up : (q : ℕ) → 2 ^ 24 ≤ q → q ≤ 2 ^ 24 → q ≡ 2 ^ 24
      full_up q h l = omega arith

      go : (b : Bool) → ltb q (2 ^ 23) ≡ b → (c : Bool) → ltb q (2 ^ 24) ≡ c → HasValue (of_bits binary32 bits) (leb (2 ^ 31) bits) (q * 2 ^ j) (2 ^ 149)
      go true t c u =
          let none = alone (ltb-true q (2 ^ 23) t) in
          worth (q * 2 ^ 0) (ap (λ (z : ℕ). q * 2 ^ z) (sym none)) (subnormal q (ltb-true q (2 ^ 23) t) bits (e ∙ low_is j q none))
      go false t true u =
          let h = ltb-false q (2 ^ 23) t in
          let l = ltb-true q (2 ^ 24) u in
          worth ((body % 2 ^ 23 + 2 ^ 23) * 2 ^ (body / 2 ^ 23 - 1)) (ap (λ (z : ℕ). z * 2 ^ (body / 2 ^ 23 - 1)) (lead j q h l) ∙ ap (λ (z : ℕ). q * 2 ^ z) (field j q h l))
          (normal body (high_lo j q h) (high_hi j q (j-le k) q-le) bits e)
      go false t false u =
          let h = ltb-false q (2 ^ 23) t in
          let up = full_up q (ltb-false q (2 ^ 24) u) q-le in
          worth ((body % 2 ^ 23 + 2 ^ 23) * 2 ^ (body / 2 ^ 23 - 1))
          (ap (λ (z : ℕ). z * 2 ^ (body / 2 ^ 23 - 1)) (lead_up j q up) ∙ ap (λ (z : ℕ). 2 ^ 23 * 2 ^ z) (field_up j q up) ∙ ap (λ (z : ℕ). 2 ^ 23 * z) (pow-succ' 2 j) ∙ sym (mul_assoc (2 ^ 23) 2 (2 ^ j))
          ∙ ap (λ (z : ℕ). z * 2 ^ j) (sym up))
          (normal body (high_lo j q h) (high_hi j q (j-le k) q-le) bits e)

  signed : (s : Bool) → (cond s (2 ^ 31) 0 + j * 2 ^ 23 + q) % 2 ^ 31 ≡ body
  signed true = go j q (j-le k) q-le
    where
      go : (j q : ℕ) → j ≤ 149 → q ≤ 2 ^ 24 → (2 ^ 31 + j * 2 ^ 23 + q) % 2 ^ 31 ≡ j * 2 ^ 23 + q
      go j q h l = omega arith
  signed false = go j q (j-le k) q-le
    where
      go : (j q : ℕ) → j ≤ 149 → q ≤ 2 ^ 24 → (0 + j * 2 ^ 23 + q) % 2 ^ 31 ≡ j * 2 ^ 23 + q
      go j q h l = omega arith

  sign_is : (s : Bool) → leb (2 ^ 31) (cond s (2 ^ 31) 0 + j * 2 ^ 23 + q) ≡ s
  sign_is true = le-leb (2 ^ 31) (2 ^ 31 + j * 2 ^ 23 + q) (go j q)
    where
      go : (j q : ℕ) → 2 ^ 31 ≤ 2 ^ 31 + j * 2 ^ 23 + q
      go j q = omega arith
  sign_is false = lt-leb (2 ^ 31) (0 + j * 2 ^ 23 + q) (go j q (j-le k) q-le)
    where
      go : (j q : ℕ) → j ≤ 149 → q ≤ 2 ^ 24 → 0 + j * 2 ^ 23 + q < 2 ^ 31
      go j q h l = omega arith

  made : (s : Bool) → of_bits binary32 (cond s (2 ^ 31) 0 + j * 2 ^ 23 + q) ≡ round binary32 s w p
  made s =
      let bits = cond s (2 ^ 31) 0 + j * 2 ^ 23 + q in
      unique binary32 (of_bits binary32 bits) (round binary32 s w p) s (q * 2 ^ j) (2 ^ 149) (of_bits-fits binary32 bits) (round-fits binary32 s w p) (lit< tt)
      (subst (λ (b : Bool). HasValue (of_bits binary32 bits) b (q * 2 ^ j) (2 ^ 149)) (sign_is s) (pattern_has bits (signed s))) (round_has s)

-- ## The program's word, from the sign's bit t and the rounded bits r

module _ {whole a k : ℕ} {ds out : List ℕ} (d : Drawn whole ds a k out) (full : a < 2 ^ 23 → k ≡ 149) (s : Bool) {t r : ℕ} (e : t ≡ cond s (2 ^ 31) 0)
    (f : r ≡ nearest a (compare (number out * 2) (10 ^ 150))) where
  abbrev word : ℕ
  word = t + (149 - k) * 2 ^ 23 + r

  r_le : r ≤ 2 ^ 24
  r_le = subst (λ (z : ℕ). z ≤ 2 ^ 24) (sym f) (le_trans (nearest-le a (compare (number out * 2) (10 ^ 150))) d.small)

  -- the sign's bit, or none, beside the rest
  rest-small : (t r k : ℕ) → r ≤ 2 ^ 24 → (t ≡ 2 ^ 31) ⊎ (t ≡ 0) → (t + (149 - k) * 2 ^ 23 + r < 2 ^ 32) × ((t + (149 - k) * 2 ^ 23 + r) % 2 ^ 31 / 2 ^ 23 < 255)
  rest-small t r k h (inl e) = (omega arith, omega arith)
  rest-small t r k h (inr e) = (omega arith, omega arith)

  either : (s : Bool) → t ≡ cond s (2 ^ 31) 0 → (t ≡ 2 ^ 31) ⊎ (t ≡ 0)
  either true e = inl e
  either false e = inr e

  pub in_word : word < 2 ^ 32
  in_word = (rest-small t r k r_le (either s e)).0

  pub finite_word : eqb (word % 2 ^ 31 / 2 ^ 23) 255 ≡ false
  finite_word = ne_eqb (word % 2 ^ 31 / 2 ^ 23) 255 (λ same. lt_irrefl 255 (subst (λ (z : ℕ). z < 255) same (rest-small t r k r_le (either s e)).1))

  pub found : of_bits binary32 word ≡ round binary32 s (whole * 10 ^ 150 + number ds) (10 ^ 150)
  found =
      ap (λ (z : ℕ). of_bits binary32 (z + (149 - k) * 2 ^ 23 + r)) e ∙ ap (λ (z : ℕ). of_bits binary32 (cond s (2 ^ 31) 0 + (149 - k) * 2 ^ 23 + z)) f
      ∙ made (whole * 10 ^ 150 + number ds) (10 ^ 150) a k (number out) (lit< tt) d.small d.few full d.same (number-below d.digits) s
