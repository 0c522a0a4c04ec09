-- Laws of signs: a rounded fraction, a quotient and a square under a change of sign. Assumes nothing.
use Rattle.std.specs.Prelude.{◌≡◌, refl, ℕ, zero, suc, ◌+◌, ◌*◌, ◌^◌, Bool, true, false, not, cond, ltb, eqb, pos, Float}
use Rattle.std.proofs.Common.{sym, ap, ◌∙◌}
use Rattle.std.specs.Float.{nan, inf, fin, Format}
use Rattle.std.specs.Float.Ieee.{prec, emax, low, up, down, unlike, odd, units, round, mul, div, neg}

-- ---- a rounded fraction

odd_neg : (d q k l : ℕ) → odd d true q k l ≡ neg (odd d false q k l)
unfolding odd neg
odd_neg d zero k l = refl
odd_neg d (suc q) k l = refl

units_neg : (f : Format) (q k : ℕ) → units f true q k ≡ neg (units f false q k)
unfolding units neg
units_neg f q k = go (ltb (q * 2 ^ k) (2 ^ (low f + suc (emax f))))
  where
    go : (b : Bool) → cond b (odd (suc (prec f)) true q k (low f)) (inf true) ≡ neg (cond b (odd (suc (prec f)) false q k (low f)) (inf false))
    go true = odd_neg (suc (prec f)) q k (low f)
    go false = refl

pub round-neg : (f : Format) (a c : ℕ) → round f true a c ≡ neg (round f false a c)
unfolding round
round-neg f a c = units_neg f _ _

pub neg-neg : (x : Float) → neg (neg x) ≡ x
unfolding neg
neg-neg nan = refl
neg-neg (inf true) = refl
neg-neg (inf false) = refl
neg-neg (fin true m e) = refl
neg-neg (fin false m e) = refl

pub round-not : (f : Format) (s : Bool) (a c : ℕ) → round f (not s) a c ≡ neg (round f s a c)
round-not f false a c = round-neg f a c
round-not f true a c = sym (neg-neg (round f false a c)) ∙ ap neg (sym (round-neg f a c))

-- ---- a square, and a quotient

unlike_not : (s t : Bool) → unlike (not s) t ≡ not (unlike s t)
unlike_not true true = refl
unlike_not true false = refl
unlike_not false true = refl
unlike_not false false = refl

unlike_nots : (s t : Bool) → unlike (not s) (not t) ≡ unlike s t
unlike_nots true true = refl
unlike_nots true false = refl
unlike_nots false true = refl
unlike_nots false false = refl

pub square_neg : (f : Format) (x : Float) → mul f (neg x) (neg x) ≡ mul f x x
unfolding mul neg
square_neg f nan = refl
square_neg f (inf s) = ap inf (unlike_nots s s)
square_neg f (fin s m e) = ap (λ (b : Bool). round f b (m * up e * (m * up e)) (down e * down e)) (unlike_nots s s)

pub div-neg : (f : Format) (x y : Float) → div f (neg x) y ≡ neg (div f x y)
unfolding div neg
div-neg f nan y = refl
div-neg f (inf s) nan = refl
div-neg f (inf s) (inf t) = refl
div-neg f (inf s) (fin t n d) = ap inf (unlike_not s t)
div-neg f (fin s m e) nan = refl
div-neg f (fin s m e) (inf t) = ap (λ (b : Bool). fin b 0 (pos 0)) (unlike_not s t)
div-neg f (fin s m e) (fin t n d) = go (eqb n 0) (eqb m 0)
  where
    go : (b z : Bool) → cond b (cond z nan (inf (unlike (not s) t))) (round f (unlike (not s) t) (m * up e * down d) (n * up d * down e))
        ≡ neg (cond b (cond z nan (inf (unlike s t))) (round f (unlike s t) (m * up e * down d) (n * up d * down e)))
    go true true = refl
    go true false = ap inf (unlike_not s t)
    go false z =
        ap (λ (b : Bool). round f b (m * up e * down d) (n * up d * down e)) (unlike_not s t)
        ∙ round-not f (unlike s t) (m * up e * down d) (n * up d * down e)
