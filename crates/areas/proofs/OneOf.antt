-- Laws of 'one of'. Assumes nothing.
use Prim.Native.Nat.{ℕ, zero, suc, ◌+◌, ◌<◌}
use mathlib.Core.Path.{◌≡◌, refl, sym, ap, ap₂, ◌∙◌}
use mathlib.Core.Bool.{Bool, true, false, ◌||◌, or-true, or-false}
use native.Mathlib.Nat.{not-suc-le-zero}
use native.Mathlib.Numerals.{add-one}
use native.Mathlib.Decide.{dec_lt}
use native.Mathlib.Omega.{arith}
use Rattle.num.specs.Laws.Bools.{false_true}
use Rattle.areas.specs.Areas.{some}

pub some_ext : (n : ℕ) (p q : ℕ → Bool) → ((k : ℕ) → k < n → p k ≡ q k) → some n p ≡ some n q
unfolding some
some_ext zero p q h = refl
some_ext (suc n) p q h = ap₂ (λ (a b : Bool). a || b) (some_ext n p q (λ k l. h k (omega arith))) (h n (omega arith))

pub some_more : (n : ℕ) (p : ℕ → Bool) → some (n + 1) p ≡ some n p || p n
unfolding some
some_more n p = ap (λ (k : ℕ). some k p) (add-one n)

-- nor does p hold of one number more
pub none_more : (n : ℕ) (p : ℕ → Bool) → some n p ≡ false → p n ≡ false → some (n + 1) p ≡ false
none_more n p e h = some_more n p ∙ rw (e, h) refl

pub some_at : (n : ℕ) (p : ℕ → Bool) (k : ℕ) → k < n → p k ≡ true → some n p ≡ true
unfolding some
some_at zero p k l e = absurd (not-suc-le-zero l)
some_at (suc n) p k l e = go (λ m. some_at n p k m e) (dec_lt k n)
  where
    go : (k < n → some n p ≡ true) → Dec (k < n) → (some n p || p n) ≡ true
    go ih (yes m) = ap (λ (b : Bool). b || p n) (ih m)
    go ih (no m) =
        let same : k ≡ n = omega arith in
        ap (λ (b : Bool). some n p || b) (sym (ap p same) ∙ e) ∙ or-true (some n p)

-- what follows from any of them
pub one_of : {A : Type 0} (n : ℕ) (p : ℕ → Bool) → some n p ≡ true → ((k : ℕ) → k < n → p k ≡ true → A) → A
unfolding some
one_of zero p e f = false_true e
one_of {A} (suc n) p e f = go (p n) refl (λ h. one_of n p h (λ k l. f k (omega arith)))
  where
    go : (b : Bool) → p n ≡ b → (some n p ≡ true → A) → A
    go true h ih = f n (omega arith) h
    go false h ih = ih (sym (ap (λ (b : Bool). some n p || b) h ∙ or-false (some n p)) ∙ e)

pub none_at : (n : ℕ) (p : ℕ → Bool) → some n p ≡ false → (k : ℕ) → k < n → p k ≡ false
none_at n p e k l = go (p k) refl
  where
    go : (b : Bool) → p k ≡ b → p k ≡ false
    go false h = h
    go true h = let z : ◌≡◌ {A = ℕ} 0 1 = cc (some_at n p k l h) in absurd (omega arith)
