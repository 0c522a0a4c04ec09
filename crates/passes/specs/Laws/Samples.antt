-- Laws of samples: where an offset is inside, at how many places; S counts the pairs of a place and an offset that is inside, it grows with
-- the radius, and how large it is. Assumes nothing.
use Rattle.std.specs.Prelude.{◌≡◌, ℕ, zero, suc, ◌+◌, ◌-◌, ◌*◌, ◌<◌, ◌≤◌, Bool, true, false, cond, nat_lt, refl}
use Rattle.std.proofs.Common.{sym, ap, ◌∙◌, subst, add-zero, add-suc, mul-zero, zero-mul, mul-one, mul-suc, suc-mul, mul-add, mul_left_comm}
use Rattle.std.proofs.Common.{mul-le-mul, mul-le-mul_right, le_refl, arith, le-leb, lt-ltb, le-ltb}
use Rattle.std.proofs.Math.Bool.{and-false}
use Rattle.std.proofs.Math.Decide.{dec_lt}
use Rattle.std.proofs.Math.Nat.{mul-le-mul_left, add-le-add, le_trans}
use Rattle.std.proofs.lemmas.Bool.{lt-leb}
use Rattle.num.specs.Sums.{sum}
use Rattle.num.specs.Laws.Sums.{sum_ext, sum-zero, sum_more, sum_split, sum_none, sum_const, sum_swap, sum_bound}
use Rattle.passes.specs.Blur.{distance, inside}
use Rattle.passes.specs.Samples.{samples, ntsc_samples, bloom_samples, once, SamplesCounted}

-- ## Where an offset is inside

module _ (n r x k : ℕ) where
  pub inside_yes : r ≤ x + k → x + k - r < n → inside n r x k ≡ true
  inside_yes h l = simp (le-leb r (x + k) h, lt-ltb (x + k - r) n l)

  pub inside-left : x + k < r → inside n r x k ≡ false
  inside-left h = simp (lt-leb r (x + k) h)

  pub inside_right : n ≤ x + k - r → inside n r x k ≡ false
  inside_right h = simp (le-ltb (x + k - r) n h, and-false)

  pub once_yes : r ≤ x + k → x + k - r < n → once n r x k ≡ 1
  once_yes h l = simp (inside_yes h l)

  pub once-left : x + k < r → once n r x k ≡ 0
  once-left h = simp (inside-left h)

  pub once_right : n ≤ x + k - r → once n r x k ≡ 0
  once_right h = simp (inside_right h)

  pub once-few : once n r x k ≤ 1
  once-few = few (inside n r x k)
    where
      few : (b : Bool) → cond b 1 0 ≤ 1
      few true = omega arith
      few false = omega arith

-- ## At how many places

module _ (n r k : ℕ) where
  abbrev at : ℕ → ℕ
  at x = once n r x k

  nowhere : n ≤ distance r k → sum n at ≡ 0
  nowhere h = sum_none n at (λ x l. out x l (dec_lt (x + k) r))
    where
      out : (x : ℕ) → x < n → Dec (x + k < r) → at x ≡ 0
      out x l (yes p) = once-left n r x k p
      out x l (no p) = once_right n r x k (omega arith)

  -- outside at first, inside at m places, outside at last
  somewhere : (m : ℕ) → n ≡ (r - k) + m + (k - r) → sum n at ≡ m
  somewhere m e =
      let first = r - k in
      let last = k - r in
      ap (λ (i : ℕ). sum i at) e
      ∙ omega (
        arith,
        sum_split (first + m) last at,
        sum_split first m at,
        sum_none first at (λ x l. once-left n r x k (omega arith)),
        sum_const m 1 (λ i. at (first + i)) (λ i l. once_yes n r (first + i) k (omega arith) (omega arith)),
        sum_none last (λ i. at (first + m + i)) (λ i l. once_right n r (first + m + i) k (omega arith)),
      )

  pub places_inside : sum n at ≡ n - distance r k
  places_inside = go (dec_lt (distance r k) n)
    where
      go : Dec (distance r k < n) → sum n at ≡ n - distance r k
      go (yes h) = somewhere (n - distance r k) (omega arith)
      go (no h) = nowhere (omega arith) ∙ omega arith

-- ## S by radius

-- its products, multiplied out
wide : (n r : ℕ) → n * (2 * r + 1) ≡ 2 * (n * r) + n
wide n r = omega (arith, mul-add n (2 * r) 1, mul_left_comm n 2 r, mul-one n)

less : (r : ℕ) → r * (r + 1) ≡ r * r + r
less r = omega (arith, mul-add r r 1, mul-one r)

-- one offset more to each side
samples_more : (n r : ℕ) → samples n (suc r) ≡ samples n r + 2 * (n - suc r)
unfolding samples
samples_more n r = go (dec_lt (suc r) n) (dec_lt r n)
  where
    go : Dec (suc r < n) → Dec (r < n)
        → cond (nat_lt (suc r) n) (n * (2 * suc r + 1) - suc r * (suc r + 1)) (n * n)
        ≡ cond (nat_lt r n) (n * (2 * r + 1) - r * (r + 1)) (n * n) + 2 * (n - suc r)
    go (yes p) (yes q) =
        let room : suc r * suc r ≤ n * suc r = mul-le-mul_right (suc r) (omega arith) in
        simp (lt-ltb (suc r) n p, lt-ltb r n q)
        (omega (arith, room, wide n (suc r), wide n r, less (suc r), less r, mul-suc n r, mul-suc (suc r) r, suc-mul r r))
    go (yes p) (no q) = absurd (omega arith)
    go (no p) (yes q) =
        let same : n ≡ suc r = omega arith in
        simp (le-ltb (suc r) n (omega arith), lt-ltb r n q)
        (rw same (omega (arith, wide (suc r) r, less r, mul-suc (suc r) r, suc-mul r r)))
    go (no p) (no q) = simp (le-ltb (suc r) n (omega arith), le-ltb r n (omega arith)) (omega arith)

samples_none : (n : ℕ) → samples n 0 ≡ n
unfolding samples
samples_none zero = refl
samples_none (suc n) =
    ap (λ (b : Bool). cond b (suc n * (2 * 0 + 1) - 0 * (0 + 1)) (suc n * suc n)) (lt-ltb 0 (suc n) (omega arith))
    ∙ omega (arith, wide (suc n) 0, mul-zero (suc n), zero-mul 1)

-- a sum with its first and its last term apart
ends : (m a b s : ℕ) (f : ℕ → ℕ) → f 0 ≡ a → f (1 + m) ≡ b → sum m (λ k. f (1 + k)) ≡ s → s + a + b ≡ sum (1 + m + 1) f
ends m a b s f p q t = omega (arith, sum_more (1 + m) f, sum_split 1 m f, sum_more 0 f, sum-zero f, p, q, t)

shifted : (r k : ℕ) → distance (suc r) (1 + k) ≡ distance r k
shifted r k = omega arith

-- by offsets: each at every place where it is inside
by_offsets : (n r : ℕ) → samples n r ≡ sum (2 * r + 1) (λ k. n - distance r k)
unfolding sum
by_offsets n zero = samples_none n ∙ omega arith
by_offsets n (suc r) =
    let f : ℕ → ℕ = λ k. n - distance (suc r) k in
    let m = 2 * r + 1 in
    let both : sum m (λ k. n - distance r k) + 2 * (n - suc r) ≡ sum m (λ k. n - distance r k) + (n - suc r) + (n - suc r) = omega arith in
    let long : 1 + m + 1 ≡ 2 * suc r + 1 = omega arith in
    samples_more n r
    ∙ ap (λ (s : ℕ). s + 2 * (n - suc r)) (by_offsets n r)
    ∙ both
    ∙ ends m (n - suc r) (n - suc r) _ f (omega arith) (omega arith) (sum_ext m _ _ (λ k l. ap (λ (d : ℕ). n - d) (shifted r k)))
    ∙ ap (λ (i : ℕ). sum i f) long

pub samples-counted : SamplesCounted
samples-counted n r =
    by_offsets n r ∙ sum_ext (2 * r + 1) _ _ (λ k l. sym (places_inside n r k)) ∙ sym (sum_swap n (2 * r + 1) (once n r))

-- ## How large it is

samples-small : (n r : ℕ) → samples n r ≤ n * (2 * r + 1)
samples-small n r =
    let place : (x : ℕ) → sum (2 * r + 1) (once n r x) ≤ 2 * r + 1 = λ x. omega (arith, sum_bound (2 * r + 1) 1 (once n r x) (once-few n r x)) in
    omega (arith, samples-counted n r, sum_bound n (2 * r + 1) (λ x. sum (2 * r + 1) (once n r x)) place)

-- of y lines, each within 1024, at radius 64 or less
pub lines-few : (y n r : ℕ) → y ≤ 1024 → n ≤ 1024 → r ≤ 64 → y * samples n r ≤ 135266304
lines-few y n r h l m =
    let most : 2 * r + 1 ≤ 129 = omega arith in
    mul-le-mul h (le_trans (samples-small n r) (mul-le-mul l most))

-- it grows with the radius
grows : (n r d : ℕ) → samples n r ≤ samples n (r + d)
grows n r zero = rw (add-zero r) (le_refl (samples n r))
grows n r (suc d) = rw (add-suc r d) (omega (arith, grows n r d, samples_more n (r + d)))

samples-most : (n r : ℕ) → r ≤ 64 → samples n r ≤ samples n 64
samples-most n r h = let whole : r + (64 - r) ≡ 64 = omega arith in subst (λ (k : ℕ). samples n r ≤ samples n k) whole (grows n r (64 - r))

-- ## The two passes

module _ (w h r : ℕ) (l : r ≤ 64) where
  -- none takes more than at 64
  pub ntsc-most : ntsc_samples w h r ≤ ntsc_samples w h 64
  unfolding ntsc_samples
  ntsc-most = mul-le-mul_left h (samples-most w r l)

  pub bloom-most : bloom_samples w h r ≤ bloom_samples w h 64
  unfolding bloom_samples
  bloom-most = add-le-add (mul-le-mul_left h (samples-most w r l)) (mul-le-mul_left w (samples-most h r l))

module _ (w h : ℕ) (wide : w ≤ 1024) (high : h ≤ 1024) where
  pub ntsc-few : ntsc_samples w h 64 ≤ 270532608
  unfolding ntsc_samples
  ntsc-few = le_trans (lines-few h w 64 high wide (omega arith)) (omega arith)

  pub bloom-few : bloom_samples w h 64 ≤ 270532608
  unfolding bloom_samples
  bloom-few = add-le-add (lines-few h w 64 high wide (omega arith)) (lines-few w h 64 wide high (omega arith))
