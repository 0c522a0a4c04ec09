-- Laws of loops that sum a list from left to right. Assumes nothing.
use Rattle.std.specs.Prelude.{◌≡◌, ℕ, zero, suc, ◌+◌, ◌<◌, ◌≤◌, List, [], ◌∷◌, length, take, slice_index_or}
use Rattle.std.proofs.Math.Path.{refl}
use Rattle.std.proofs.Common.{sym, ap, ◌∙◌, zero-le, add-one, le_of_suc-le-suc, not-suc-le-zero, arith, take_all}
use Rattle.passes.specs.Fold.{fold}

module _ {A B : Type 0} where
  step : (f : B → A → B) (z : B) (xs : List A) (i : ℕ) (d : A) → i < length xs
      → f (fold f z (take i xs)) (slice_index_or xs i d) ≡ fold f z (take (suc i) xs)
  unfolding fold
  step f z [] i d l = absurd (not-suc-le-zero l)
  step f z (x ∷ xs) zero d l = refl
  step f z (x ∷ xs) (suc i) d l = step f (f z x) xs i d (le_of_suc-le-suc l)

  -- the invariant of a loop that has summed the first i words to s
  pub record Folded (i : ℕ) (f : B → A → B) (z : B) (xs : List A) (s : B) : Type 0 where
    pub within : i ≤ length xs
    pub done : s ≡ fold f z (take i xs)

  pub none : (f : B → A → B) (z : B) (xs : List A) → Folded 0 f z xs z
  unfolding fold
  none f z xs = record { within = zero-le; done = refl }

  module _ {i : ℕ} {f : B → A → B} {z : B} {xs : List A} {s : B} (t : Folded i f z xs s) where
    pub more : (d : A) {v : B} → i < length xs → v ≡ f s (slice_index_or xs i d) → Folded (i + 1) f z xs v
    more d l h = record {
      within = omega arith;
      done = h ∙ ap (λ (b : B). f b (slice_index_or xs i d)) t.done ∙ step f z xs i d l ∙ ap (λ (n : ℕ). fold f z (take n xs)) (sym (add-one i));
    }

    pub all : length xs ≤ i → s ≡ fold f z xs
    all l = t.done ∙ ap (λ (zs : List A). fold f z zs) (take_all i xs l)
