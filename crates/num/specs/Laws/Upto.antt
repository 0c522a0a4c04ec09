-- A value as the bound: `Upto z x` says that x is at most z away from 0. Rounding keeps the order, so the bound of a
-- sum or a product is the sum or the product of the bounds, rounded. Assumes nothing.
use Rattle.std.specs.Prelude.{◌≡◌, refl, ℕ, ◌+◌, ◌-◌, ◌*◌, ◌≤◌, ◌<◌, Bool, true, false, ◌&&◌, ◌||◌, cond, T, ltb, eqb, Float}
use Rattle.std.proofs.Common.{sym, subst, mul-pos, mul-le-mul, mul-le-mul_right, le_trans, le_refl, arith, true≢false, eq-eqb, ltb-false, lit<}
use Rattle.std.specs.Float.{nan, inf, fin, binary32}
use Rattle.std.specs.Float.Ieee.{up, down, unlike, round, sum, add, mul, neg, le, of_int}
use Rattle.std.specs.Float.Ieee.Fits.{down_pos}
use Rattle.std.specs.Float.Ieee.Exact.{HasValue}
use Rattle.std.specs.Float.Ieee.Back.{round_whole}
use Rattle.std.specs.Float.Ieee.Order.{round_mono}
use Rattle.std.specs.Float.Ieee.Scale.{finite}
use Rattle.num.specs.F32.{◌⊕◌, ◌⊗◌, whole}
use Rattle.num.specs.Laws.Order.{tests_le, le_tests}
use Rattle.num.specs.Laws.Signs.{round-neg}
use Rattle.num.specs.Ranges.{Signed}
use Rattle.num.specs.Laws.Within.{round_signed}

abbrev pub Upto : Float → Float → Type 0
Upto nan x = ⊥
Upto (inf t) x = ⊥
Upto (fin true i g) x = ⊥
Upto (fin false i g) nan = ⊥
Upto (fin false i g) (inf s) = ⊥
Upto (fin false i g) (fin s m e) = m * up e * down g ≤ i * up g * down e

upto-neg : (z x : Float) → Upto z x → Upto z (neg x)
unfolding neg
upto-neg nan x h = h
upto-neg (inf t) x h = h
upto-neg (fin true i g) x h = h
upto-neg (fin false i g) nan h = h
upto-neg (fin false i g) (inf s) h = h
upto-neg (fin false i g) (fin s m e) h = h

le-upto : (z x : Float) → T (finite z) → Signed false z → Signed false x → T (le x z) → Upto z x
unfolding le
le-upto nan x f p q h = elim f [ ]
le-upto (inf _) x f p q h = elim f [ ]
le-upto (fin false i g) nan f p q h = elim q [ ]
le-upto (fin true i g) x f p q h = absurd (true≢false p)
le-upto (fin false i g) (inf true) f p q h = absurd (true≢false q)
le-upto (fin false i g) (inf false) f p q h = h
le-upto (fin false i g) (fin true m e) f p q h = absurd (true≢false q)
le-upto (fin false i g) (fin false m e) f p q h = tests_le (m * up e * down g) (i * up g * down e) true h

round-upto_plus : (a c b d : ℕ) → 0 < c → 0 < d → T (finite (round binary32 false b d)) → a * d ≤ b * c
    → Upto (round binary32 false b d) (round binary32 false a c)
round-upto_plus a c b d p q f h =
    le-upto (round binary32 false b d) (round binary32 false a c) f (round_signed binary32 false b d)
    (round_signed binary32 false a c) (round_mono binary32 a c b d p q h)

round-upto : (s : Bool) (a c b d : ℕ) → 0 < c → 0 < d → T (finite (round binary32 false b d)) → a * d ≤ b * c
    → Upto (round binary32 false b d) (round binary32 s a c)
round-upto false a c b d p q f h = round-upto_plus a c b d p q f h
round-upto true a c b d p q f h =
    subst (λ (x : Float). Upto (round binary32 false b d) x) (sym (round-neg binary32 a c))
    (upto-neg (round binary32 false b d) (round binary32 false a c) (round-upto_plus a c b d p q f h))

pub times-upto : (z w x y : Float) → T (finite (z ⊗ w)) → Upto z x → Upto w y → Upto (z ⊗ w) (x ⊗ y)
unfolding mul
times-upto nan w x y f h k = absurd h
times-upto (inf _) w x y f h k = absurd h
times-upto (fin true i g) w x y f h k = absurd h
times-upto (fin false i g) nan x y f h k = absurd k
times-upto (fin false i g) (inf _) x y f h k = absurd k
times-upto (fin false i g) (fin true j d) x y f h k = absurd k
times-upto (fin false i g) (fin false j d) nan y f h k = absurd h
times-upto (fin false i g) (fin false j d) (inf _) y f h k = absurd h
times-upto (fin false i g) (fin false j d) (fin s m e) nan f h k = absurd k
times-upto (fin false i g) (fin false j d) (fin s m e) (inf _) f h k = absurd k
times-upto (fin false i g) (fin false j d) (fin s m e) (fin t n c) f h k =
    round-upto (unlike s t) (m * up e * (n * up c)) (down e * down c) (i * up g * (j * up d)) (down g * down d)
    (mul-pos (down_pos e) (down_pos c)) (mul-pos (down_pos g) (down_pos d)) f
    (pair (m * up e) (n * up c) (down e) (down c) (i * up g) (j * up d) (down g) (down d) h k)
  where
    pair : (a b c d i j g h : ℕ) → a * g ≤ i * c → b * h ≤ j * d → a * b * (g * h) ≤ i * j * (c * d)
    pair a b c d i j g h p q = let r = mul-le-mul p q in omega arith

pub plus_upto : (z w x y : Float) → T (finite (z ⊕ w)) → Upto z x → Upto w y → Upto (z ⊕ w) (x ⊕ y)
unfolding add sum
plus_upto nan w x y f h k = absurd h
plus_upto (inf _) w x y f h k = absurd h
plus_upto (fin true i g) w x y f h k = absurd h
plus_upto (fin false i g) nan x y f h k = absurd k
plus_upto (fin false i g) (inf _) x y f h k = absurd k
plus_upto (fin false i g) (fin true j d) x y f h k = absurd k
plus_upto (fin false i g) (fin false j d) nan y f h k = absurd h
plus_upto (fin false i g) (fin false j d) (inf _) y f h k = absurd h
plus_upto (fin false i g) (fin false j d) (fin s m e) nan f h k = absurd k
plus_upto (fin false i g) (fin false j d) (fin s m e) (inf _) f h k = absurd k
plus_upto (fin false i g) (fin false j d) (fin s m e) (fin t n c) f h k =
    go s t (m * up e * down c) (n * up c * down e)
    (pair (m * up e) (n * up c) (down e) (down c) (i * up g) (j * up d) (down g) (down d) h k)
  where
    pair : (a b c d i j g h : ℕ) → a * g ≤ i * c → b * h ≤ j * d → (a * d + b * c) * (g * h) ≤ (i * h + j * g) * (c * d)
    pair a b c d i j g h p q = let r = mul-le-mul_right (d * h) p in let u = mul-le-mul_right (c * g) q in omega arith

    by : (s : Bool) (r a b : ℕ) → r ≤ a + b
        → (a + b) * (down g * down d) ≤ (i * up g * down d + j * up d * down g) * (down e * down c)
        → Upto (round binary32 false (i * up g * down d + j * up d * down g) (down g * down d))
        (round binary32 s r (down e * down c))
    by s r a b l p =
        round-upto s r (down e * down c) _ (down g * down d) (mul-pos (down_pos e) (down_pos c))
        (mul-pos (down_pos g) (down_pos d)) f (le_trans (mul-le-mul_right (down g * down d) l) p)

    pick : (q u v : Bool) (a b : ℕ)
        → (a + b) * (down g * down d) ≤ (i * up g * down d + j * up d * down g) * (down e * down c)
        → Upto (round binary32 false (i * up g * down d + j * up d * down g) (down g * down d))
        (cond q (round binary32 u (b - a) (down e * down c)) (round binary32 v (a - b) (down e * down c)))
    pick true u v a b p = by u (b - a) a b (omega arith) p
    pick false u v a b p = by v (a - b) a b (omega arith) p

    go : (s t : Bool) (a b : ℕ)
        → (a + b) * (down g * down d) ≤ (i * up g * down d + j * up d * down g) * (down e * down c)
        → Upto (round binary32 false (i * up g * down d + j * up d * down g) (down g * down d))
        (sum binary32 s a t b (down e * down c))
    go true true a b p = by true (a + b) a b (le_refl (a + b)) p
    go false false a b p = by false (a + b) a b (le_refl (a + b)) p
    go true false a b p = pick (ltb a b) false (true && ltb b a) a b p
    go false true a b p = pick (ltb a b) true false a b p

pub upto_le : (z x : Float) → Upto z x → T (le x z)
unfolding le
upto_le nan x h = absurd h
upto_le (inf t) x h = absurd h
upto_le (fin true i g) x h = absurd h
upto_le (fin false i g) nan h = absurd h
upto_le (fin false i g) (inf s) h = absurd h
upto_le (fin false i g) (fin false m e) h = le_tests (m * up e * down g) (i * up g * down e) true h tt
upto_le (fin false i g) (fin true m e) h =
    go (m * up e * down g) (i * up g * down e) (ltb 0 (m * up e * down g + i * up g * down e)) refl
  where
    go : (a b : ℕ) (q : Bool) → ltb 0 (a + b) ≡ q → T (q || (eqb a b && (false || eqb a 0)))
    go a b true e = tt
    go a b false e = let l = ltb-false 0 (a + b) e in rw (eq-eqb a b (omega arith), eq-eqb a 0 (omega arith)) tt

pub whole-upto : (n k : ℕ) → k ≤ n → n ≤ 16777216 → Upto (whole n) (whole k)
unfolding of_int
whole-upto n k l s =
    round-upto false k 1 n 1 (lit< tt) (lit< tt)
    (value_finite (round binary32 false n 1) (round_whole binary32 false n s)) (mul-le-mul_right 1 l)
  where
    value_finite : (x : Float) → HasValue x false n 1 → T (finite x)
    value_finite nan v = elim v [ ]
    value_finite (inf _) v = elim v [ ]
    value_finite (fin t m e) v = tt
