-- Quotients: what is at most n away from 0, divided by what is at least 1 / k, is at most n k away; k of m, where k is
-- at most m, is from 0 to 1. Assumes nothing.
use Rattle.std.specs.Prelude.{◌≡◌, refl, ℕ, zero, suc, ◌*◌, ◌≤◌, ◌<◌, Bool, true, false, ℤ, T, eqb, Float}
use Rattle.std.proofs.Common.{sym, ap, ◌∙◌, inl, inr, zero-mul, mul-one, mul-pos, mul-le-mul, mul-le-mul_right, le_trans, le_of_eq, lt_irrefl}
use Rattle.std.proofs.Common.{lt_of_lt_of_le, arith, true≢false, ne_eqb, lit≤}
use Rattle.std.specs.Float.{nan, inf, fin, binary32}
use Rattle.std.specs.Float.Ieee.{up, down, unlike, round, div, of_int}
use Rattle.std.specs.Float.Ieee.Fits.{down_pos}
use Rattle.std.specs.Float.Ieee.Exact.{HasValue}
use Rattle.num.specs.Laws.Bounds.{int_within}
use Rattle.std.specs.Float.Ieee.Back.{round_whole}
use Rattle.num.specs.Const.{c1_0}
use Rattle.num.specs.F32.{◌⊖◌, ◌⊘◌, whole}
use Rattle.num.specs.Ranges.{within}
use Rattle.num.specs.Laws.Within.{size-le, minus_zero, round-within, Plain}
use Rattle.num.specs.Laws.Sized.{Exact, exact, Sized, exact_within, round-sized}
use Rattle.num.specs.Laws.Least.{Least, less_nothing}

-- what is divided by, at least 1 / k, is not 0
some : (k i : ℕ) (d : ℤ) → down d ≤ k * (i * up d) → eqb i 0 ≡ false
some k i d l =
    ne_eqb i 0
    (λ z. lt_irrefl 0
    (lt_of_lt_of_le (down_pos d) (le_trans l (le_of_eq (ap (λ (j : ℕ). k * (j * up d)) z ∙ nought k (up d))))))
  where
    nought : (k u : ℕ) → k * (0 * u) ≡ 0
    nought k u = omega (arith, zero-mul u)

over-le : (n k a c b d : ℕ) → a ≤ n * c → d ≤ k * b → a * d ≤ n * k * (b * c)
over-le n k a c b d h l = let p = mul-le-mul h l in omega arith

pos_right : (k b d : ℕ) → 0 < d → d ≤ k * b → 0 < b
pos_right k zero d p l = absurd (omega arith)
pos_right k (suc b) d p l = omega arith

pub over_sized : (n k : ℕ) (x y : Float) → Exact (n * k) → Sized n x → Least k y → Sized (n * k) (x ⊘ y)
unfolding div
over_sized n k nan y e h g = absurd h
over_sized n k (inf _) y e h g = absurd h
over_sized n k (fin s m e) nan x h g = absurd g
over_sized n k (fin s m e) (inf _) x h g = absurd g
over_sized n k (fin s m e) (fin true i d) x h g = absurd g
over_sized n k (fin s m e) (fin false i d) x h g =
    rw (some k i d g)
    (round-sized (n * k) (unlike s false) (m * up e * down d) (i * up d * down e) x
    (mul-pos (pos_right k (i * up d) (down d) (down_pos d) g) (down_pos e))
    (over-le n k (m * up e) (down e) (i * up d) (down d) h g))

pub over-within : (n k : ℕ) (x y : Float) → Exact (n * k) → n * k ≤ 16777216 → T (within n x) → Least k y
    → T (within (n * k) (x ⊘ y))
unfolding div within
over-within n k nan y e l h g = absurd h
over-within n k (inf _) y e l h g = absurd h
over-within n k (fin s m e) nan x l h g = absurd g
over-within n k (fin s m e) (inf _) x l h g = absurd g
over-within n k (fin s m e) (fin true i d) x l h g = absurd g
over-within n k (fin s m e) (fin false i d) x l h g =
    rw (some k i d g)
    (round-within (n * k) (unlike s false) (m * up e * down d) (i * up d * down e) l
    (mul-pos (pos_right k (i * up d) (down d) (down_pos d) g) (down_pos e))
    (over-le n k (m * up e) (down e) (i * up d) (down d) (size-le n s m e h) g) (go s h))
  where
    go : (s : Bool) → T (within n (fin s m e)) → Plain (unlike s false) (m * up e * down d)
    go false h = inl refl
    go true h = inr (ap (λ (j : ℕ). j * down d) (minus_zero n m e h) ∙ zero-mul (down d))

pub share-within : (k m : ℕ) → k ≤ m → 0 < m → m ≤ 16777216 → T (within 1 (whole k ⊘ whole m))
unfolding div of_int
share-within k m l p s =
    go (round binary32 false k 1) (round binary32 false m 1) (round_whole binary32 false k (le_trans l s))
    (round_whole binary32 false m s)
  where
    less : (a c b d : ℕ) → a * 1 ≡ k * c → b * 1 ≡ m * d → a * d ≤ 1 * (b * c)
    less a c b d v w =
        let q = mul-le-mul_right (c * d) l in
        let i : a * d ≡ k * (c * d) = ap (λ (j : ℕ). j * d) (sym (mul-one a) ∙ v) ∙ omega arith in
        let j : b * c ≡ m * (c * d) = ap (λ (j : ℕ). j * c) (sym (mul-one b) ∙ w) ∙ omega arith in
        omega arith

    unit : (b d : ℕ) → b * 1 ≡ m * d → d ≤ 1 * b
    unit b d w = let q = mul-le-mul_right d p in omega arith

    go : (x y : Float) → HasValue x false k 1 → HasValue y false m 1 → T (within 1 (div binary32 x y))
    go nan y v w = elim v [ ]
    go (inf _) y v w = elim v [ ]
    go (fin false a e) nan v w = elim w [ ]
    go (fin false a e) (inf _) v w = elim w [ ]
    go (fin true a e) y v w = absurd (true≢false v.0)
    go (fin false a e) (fin true i d) v w = absurd (true≢false w.0)
    go (fin false a e) (fin false i d) v w =
        let g = unit (i * up d) (down d) w.1 in
        rw (some 1 i d g)
        (exact_within 1 (a * up e * down d) (i * up d * down e) (exact 1 (lit≤ tt))
        (mul-pos (pos_right 1 (i * up d) (down d) (down_pos d) g) (down_pos e))
        (less (a * up e) (down e) (i * up d) (down d) v.1 w.1))

pub centre_least : (y : Float) → Least 1 y → Least 1 (c1_0 ⊖ whole 0 ⊘ y)
centre_least y l =
    less_nothing (whole 0 ⊘ y) (over-within 0 1 (whole 0) y (exact 0 (lit≤ tt)) (lit≤ tt) (int_within 0 (lit≤ tt)) l)
