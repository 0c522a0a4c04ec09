-- An arithmetic that agrees with the number steps, step by step: where a number a of it stands for a value x of known
-- bounds (`Has`: from -n to n, `Plus`: from 0 to n, `Big`: at least 1 / k), each step's result stands for the value's,
-- with the bounds of the result. Assumes nothing.
use Rattle.std.specs.Prelude.{◌≡◌, ℕ, ◌+◌, ◌*◌, ◌<◌, ◌≤◌, Bool, true, false, ◌&&◌, ◌||◌, T, ◌==◌, nat_le, nat_lt, refl, Float}
use Rattle.std.proofs.Common.{sym, subst, zero-mul, mul-one, arith, leb→le, le-ltb, lt-ltb}
use Rattle.std.specs.Float.Ieee.Fits.{down_pos}
use Rattle.num.specs.Laws.Order.{le_tests}
use Rattle.std.specs.Float.Ieee as Ieee
use Rattle.std.specs.Float.{nan, inf, fin}
use Rattle.std.specs.Float.Ieee.{up, down, lt, le, of_bits}
use Rattle.std.specs.Float.Ieee.Scale.{finite}
use Rattle.num.specs.Const.{c0_0, c1_0, c255_0}
use Rattle.num.specs.F32.{◌⊕◌, ◌⊖◌, ◌⊗◌, ◌⊘◌, whole}
use Rattle.num.specs.Root.{root_of}
use Rattle.num.specs.Steps.{clamp_of, min_of, max_of, abs_of, round_of}
use Rattle.num.specs.Ranges.{within, Signed}
use Rattle.num.specs.Laws.Within.{size-le, minus_zero, mul-within, add-within}
use Rattle.num.specs.Laws.Bounds.{zero-within, round-step-within, value_within, widen, clamp_within, min-within, one-is}
use Rattle.num.specs.Laws.Bounds.{top_is, int_within, one_less_within}
use Rattle.num.specs.Laws.Order.{one-above}
use Rattle.passes.specs.Arith.{Arith, Agrees}
use Rattle.num.specs.Laws.Least.{Least, whole_least, max_least}
use Rattle.num.specs.Laws.Quotients.{over_sized, over-within, share-within}
use Rattle.num.specs.Laws.Sized.{Exact, exact, Sized, sized_finite, sized-number, within-sized, neg-sized, plus_sized}
use Rattle.num.specs.Laws.Sized.{minus_sized, times-sized, abs_sized, round-step-sized, sized_widen, between-sized}
use Rattle.num.specs.Laws.Squares.{square_within, root_within}

pub record Has {A : Arith} (G : Agrees A) (n : ℕ) (a : A.F) (x : Float) : Type 0 where
  pub is : G.same a x
  pub size : Sized n x

pub record Plus {A : Arith} (G : Agrees A) (n : ℕ) (a : A.F) (x : Float) : Type 0 where
  pub is : G.same a x
  pub inside : T (within n x)

pub record Big {A : Arith} (G : Agrees A) (k : ℕ) (a : A.F) (x : Float) : Type 0 where
  pub is : G.same a x
  pub least : Least k x

-- a test that is computed
abbrev pub Fits : ℕ → Type 0
Fits n = T (nat_le n 16777216)

few : (n : ℕ) → Fits n → n ≤ 16777216
few n t = leb→le n 16777216 t

fine : (n : ℕ) → Fits n → Exact n
fine n t = exact n (few n t)

abbrev pub sized : ℕ → Float → Bool
sized n nan = false
sized n (inf s) = false
sized n (fin s m e) = nat_le (m * up e) (n * down e)

pub sized-is : (n : ℕ) (x : Float) → T (sized n x) → Sized n x
sized-is n nan t = absurd t
sized-is n (inf s) t = absurd t
sized-is n (fin s m e) t = leb→le (m * up e) (n * down e) t

within_finite : (n : ℕ) (x : Float) → T (within n x) → T (finite x)
within_finite n x h = sized_finite n x (within-sized n x h)

not-below : (n : ℕ) (x : Float) → T (within n x) → lt x c0_0 ≡ false
unfolding within lt of_bits
not-below n nan h = refl
not-below n (inf s) h = absurd h
not-below n (fin false m e) h = le-ltb (m * up e * 1) (0 * 1 * down e) (omega (arith, zero-mul (down e)))
not-below n (fin true m e) h =
    le-ltb 0 (m * up e * 1 + 0 * 1 * down e) (omega (arith, minus_zero n m e h, zero-mul (down e)))

-- what is from 0 to 1 is not above 1
within-le : (x : Float) → T (within 1 x) → T (le x c1_0)
unfolding within le of_bits
within-le nan h = absurd h
within-le (inf s) h = absurd h
within-le (fin false m e) h = le_tests (m * up e * 1) (1 * down e) true (omega (arith, size-le 1 false m e h)) tt
within-le (fin true m e) h = le-neg (m * up e * 1) (1 * down e) (omega (arith, down_pos e))
  where
    le-neg : (a b : ℕ) → 0 < b → T (nat_lt 0 (a + b) || (a == b && (false || a == 0)))
    le-neg a b p = go (nat_lt 0 (a + b)) (lt-ltb 0 (a + b) (omega arith))
      where
        go : (q : Bool) → q ≡ true → T (q || (a == b && (false || a == 0)))
        go q e = rw e tt

module _ {A : Arith} {G : Agrees A} where
  pub signed : {n : ℕ} {a : A.F} {x : Float} → Plus G n a x → Has G n a x
  signed {n} {a} {x} h = record { is = h.is; size = within-sized n x h.inside }

  -- ---- constants, settings, whole numbers

  pub lit : (n : ℕ) (c : Float) → T (sized n c) → Has G n (A.lit c) c
  lit n c t = let s = sized-is n c t in record { is = G.lit c (sized_finite n c s); size = s }

  pub lit⁺ : (n : ℕ) (c : Float) → T (within n c) → Plus G n (A.lit c) c
  lit⁺ n c t = record { is = G.lit c (within_finite n c t); inside = t }

  pub whole⁺ : (n k : ℕ) → k ≤ n → n ≤ 16777216 → Plus G n (A.whole k) (whole k)
  whole⁺ n k l m = record { is = G.whole k (omega arith); inside = widen k n (whole k) l (int_within k (omega arith)) }

  pub whole_big : (k : ℕ) → 0 < k → k ≤ 16777216 → Big G 1 (A.whole k) (whole k)
  whole_big k p l = record { is = G.whole k l; least = whole_least k p l }

  pub lit_big : (c : Float) → T (finite c) → Least 1 c → Big G 1 (A.lit c) c
  lit_big c t l = record { is = G.lit c t; least = l }

  -- k of m
  pub share⁺ : (k m : ℕ) → k ≤ m → 0 < m → m ≤ 16777216
      → Plus G 1 (A.◌⊘◌ (A.whole k) (A.whole m)) (whole k ⊘ whole m)
  share⁺ k m l p s =
      let h = share-within k m l p s in
      record {
        is = G.over (G.whole k (omega arith)) (G.whole m s) (within_finite 1 (whole k ⊘ whole m) h);
        inside = h;
      }

  -- ---- from -n to n

  pub wide : (k : ℕ) {n : ℕ} {a : A.F} {x : Float} → Has G n a x → T (nat_le n k) → Has G k a x
  wide k {n} {a} {x} h t = record { is = h.is; size = sized_widen n k x (leb→le n k t) h.size }

  pub plus_exact : {n k : ℕ} {a b : A.F} {x y : Float} → Has G n a x → Has G k b y → Exact (n + k)
      → Has G (n + k) (A.◌⊕◌ a b) (x ⊕ y)
  plus_exact {n} {k} {a} {b} {x} {y} h g t =
      let s = plus_sized n k x y t h.size g.size in
      record { is = G.plus h.is g.is (sized_finite (n + k) (x ⊕ y) s); size = s }

  pub plus : {n k : ℕ} {a b : A.F} {x y : Float} → Has G n a x → Has G k b y → Fits (n + k)
      → Has G (n + k) (A.◌⊕◌ a b) (x ⊕ y)
  plus {n} {k} h g t = plus_exact h g (fine (n + k) t)

  -- of two from 0 to n
  pub difference : {n : ℕ} {a b : A.F} {x y : Float} → Plus G n a x → Plus G n b y → Fits n
      → Has G n (A.◌⊖◌ a b) (x ⊖ y)
  difference {n} {a} {b} {x} {y} h g t =
      let s = between-sized n x y (fine n t) h.inside g.inside in
      record { is = G.minus h.is g.is (sized_finite n (x ⊖ y) s); size = s }

  pub minus : {n k : ℕ} {a b : A.F} {x y : Float} → Has G n a x → Has G k b y → Fits (n + k)
      → Has G (n + k) (A.◌⊖◌ a b) (x ⊖ y)
  minus {n} {k} {a} {b} {x} {y} h g t =
      let s = minus_sized n k x y (fine (n + k) t) h.size g.size in
      record { is = G.minus h.is g.is (sized_finite (n + k) (x ⊖ y) s); size = s }

  pub times : {n k : ℕ} {a b : A.F} {x y : Float} → Has G n a x → Has G k b y → Fits (n * k)
      → Has G (n * k) (A.◌⊗◌ a b) (x ⊗ y)
  times {n} {k} {a} {b} {x} {y} h g t =
      let s = times-sized n k x y (fine (n * k) t) h.size g.size in
      record { is = G.times h.is g.is (sized_finite (n * k) (x ⊗ y) s); size = s }

  pub over : {n k : ℕ} {a b : A.F} {x y : Float} → Has G n a x → Big G k b y → Exact (n * k)
      → Has G (n * k) (A.◌⊘◌ a b) (x ⊘ y)
  over {n} {k} {a} {b} {x} {y} h g t =
      let s = over_sized n k x y t h.size g.least in
      record { is = G.over h.is g.is (sized_finite (n * k) (x ⊘ y) s); size = s }

  -- by something that is at least 1
  pub over-one : {n : ℕ} {a b : A.F} {x y : Float} → Has G n a x → Big G 1 b y → Exact n → Has G n (A.◌⊘◌ a b) (x ⊘ y)
  over-one {n} {a} {b} {x} {y} h g t =
      subst (λ (k : ℕ). Has G k (A.◌⊘◌ a b) (x ⊘ y)) (mul-one n)
      (over h g (subst (λ (k : ℕ). Exact k) (sym (mul-one n)) t))

  pub negated : {n : ℕ} {a : A.F} {x : Float} → Has G n a x → Has G n (A.neg a) (Ieee.neg x)
  negated {n} {a} {x} h = record { is = G.neg h.is; size = neg-sized n x h.size }

  pub abs : {n : ℕ} {a : A.F} {x : Float} → Has G n a x → Has G n (A.abs a) (abs_of x)
  abs {n} {a} {x} h = record { is = G.abs h.is; size = abs_sized n x h.size }

  pub round : {n : ℕ} {a : A.F} {x : Float} → Has G n a x → Fits n → Has G n (A.round a) (round_of x)
  round {n} {a} {x} h t =
      let s = round-step-sized n x (fine n t) h.size in
      record { is = G.round h.is (sized_finite n (round_of x) s); size = s }

  -- ---- from 0 to n

  pub plus⁺ : {n k : ℕ} {a b : A.F} {x y : Float} → Plus G n a x → Plus G k b y → Fits (n + k)
      → Plus G (n + k) (A.◌⊕◌ a b) (x ⊕ y)
  plus⁺ {n} {k} {a} {b} {x} {y} h g t =
      record {
        is = (plus (signed h) (signed g) t).is;
        inside = add-within n k x y (few (n + k) t) h.inside g.inside;
      }

  pub times⁺ : {n k : ℕ} {a b : A.F} {x y : Float} → Plus G n a x → Plus G k b y → Fits (n * k)
      → Plus G (n * k) (A.◌⊗◌ a b) (x ⊗ y)
  times⁺ {n} {k} {a} {b} {x} {y} h g t =
      record {
        is = (times (signed h) (signed g) t).is;
        inside = mul-within n k x y (few (n * k) t) h.inside g.inside;
      }

  pub over⁺ : {n k : ℕ} {a b : A.F} {x y : Float} → Plus G n a x → Big G k b y → Fits (n * k)
      → Plus G (n * k) (A.◌⊘◌ a b) (x ⊘ y)
  over⁺ {n} {k} {a} {b} {x} {y} h g t =
      record {
        is = (over (signed h) g (fine (n * k) t)).is;
        inside = over-within n k x y (fine (n * k) t) (few (n * k) t) h.inside g.least;
      }

  pub square⁺ : {n : ℕ} {a : A.F} {x : Float} → Has G n a x → Fits (n * n) → Plus G (n * n) (A.◌⊗◌ a a) (x ⊗ x)
  square⁺ {n} {a} {x} h t = record { is = (times h h t).is; inside = square_within n x (fine (n * n) t) h.size }

  pub round⁺ : {n : ℕ} {a : A.F} {x : Float} → Plus G n a x → Fits n → Plus G n (A.round a) (round_of x)
  round⁺ {n} {a} {x} h t = record { is = (round (signed h) t).is; inside = round-step-within n x (few n t) h.inside }

  pub zero⁺ : Plus G 0 (A.lit c0_0) c0_0
  zero⁺ = lit⁺ 0 c0_0 (zero-within 0)

  pub one⁺ : Plus G 1 (A.lit c1_0) c1_0
  one⁺ = lit⁺ 1 c1_0 (value_within 1 c1_0 one-is)

  pub top⁺ : Plus G 255 (A.lit c255_0) c255_0
  top⁺ = lit⁺ 255 c255_0 (value_within 255 c255_0 top_is)

  -- 1 less something from 0 to 1
  pub one_less : {a : A.F} {x : Float} → Plus G 1 a x → Plus G 1 (A.◌⊖◌ (A.lit c1_0) a) (c1_0 ⊖ x)
  one_less {a} {x} h =
      record {
        is = (minus (signed one⁺) (signed h) tt).is;
        inside = one_less_within x h.inside (within-le x h.inside);
      }

  -- clamped to 0..1, and to 0..255
  pub clamp_one : {n : ℕ} {a : A.F} {x : Float} → Has G n a x
      → Plus G 1 (A.clamp a (A.lit c0_0) (A.lit c1_0)) (clamp_of x c0_0 c1_0)
  unfolding le of_bits
  clamp_one {n} {a} {x} h =
      record {
        is = G.clamp h.is zero⁺.is one⁺.is tt;
        inside = clamp_within 1 x c1_0 one-is (sized-number n x h.size);
      }

  pub clamp_top : {n : ℕ} {a : A.F} {x : Float} → Has G n a x
      → Plus G 255 (A.clamp a (A.lit c0_0) (A.lit c255_0)) (clamp_of x c0_0 c255_0)
  unfolding le of_bits
  clamp_top {n} {a} {x} h =
      record {
        is = G.clamp h.is zero⁺.is top⁺.is tt;
        inside = clamp_within 255 x c255_0 top_is (sized-number n x h.size);
      }

  pub least_one : {n : ℕ} {a : A.F} {x : Float} → Plus G n a x → Plus G 1 (A.least a (A.lit c1_0)) (min_of x c1_0)
  least_one {n} {a} {x} h =
      record {
        is = G.least h.is one⁺.is one-above;
        inside = min-within 1 x c1_0 one-is (not-below n x h.inside);
      }

  -- the root of what is from 0 to 2 ^ 24
  pub root⁺ : {n : ℕ} {a : A.F} {x : Float} → Plus G n a x → Signed false x → Fits n
      → Plus G 8192 (A.root a) (root_of x)
  root⁺ {n} {a} {x} h p t =
      let r = root_within x (widen n 16777216 x (few n t) h.inside) in
      record { is = G.root h.is p (within_finite 8192 (root_of x) r); inside = r }

  -- the greater of something and 1
  pub most-one : {n : ℕ} {a : A.F} {x : Float} → Has G n a x → Big G 1 (A.most a (A.lit c1_0)) (max_of x c1_0)
  most-one {n} {a} {x} h =
      record { is = G.most h.is one⁺.is one-above; least = max_least n x h.size }
