-- A line in which each place sums its own terms, one term of every place at a turn. Assumes nothing.
use Rattle.std.proofs.Common.{◌≡◌, ℕ, suc, ◌+◌, ◌<◌, ◌≤◌, List, [], ◌∷◌, length, replicate, sym, refl, ap, ◌∙◌, zero-le, add-one, arith}
use lib.Ieee.{Float}
use Rattle.num.specs.Rewrite.{rewrite, every, fill}
use Rattle.num.specs.Laws.Rewrite.{every_twice, length-rewrite, rewrite_ext}

-- a line that the library's `fill` has filled
pub filled : (v : Float) (xs : List Float) → replicate (length xs) v ≡ fill (λ i. v) xs
unfolding rewrite
filled v [] = refl
filled v (x ∷ xs) = ap (λ (l : List Float). v ∷ l) (filled v xs)

-- the invariant of the loop: of `most` terms each place x has the sum of the first k, which is `sums x k`
pub record Summed (sums : ℕ → ℕ → Float) (most k : ℕ) (before acc : List Float) : Type 0 where
  pub upto : k ≤ most
  pub kept : length acc ≡ length before
  pub sum : acc ≡ fill (λ x. sums x k) before

module _ {sums : ℕ → ℕ → Float} {most : ℕ} where
  -- the loop begins with a line that was filled by the sums of no terms
  pub summed_none : (entry acc : List Float) → acc ≡ fill (λ x. sums x 0) entry → Summed sums most 0 acc acc
  summed_none entry acc e =
      record { upto = zero-le; kept = refl; sum = e ∙ sym (every_twice (λ x v. sums x 0) (λ x v. sums x 0) entry acc e) }

  module _ {k : ℕ} {before acc : List Float} (t : Summed sums most k before acc) where
    -- a turn adds m terms of each place by the rule g
    pub summed_on : (m : ℕ) (g : ℕ → Float → Float) (after : List Float) → k + m ≤ most
        → ((x : ℕ) → x < length before → g x (sums x k) ≡ sums x (k + m)) → after ≡ every g acc → Summed sums most (k + m) before after
    summed_on m g after l h f =
        let e = f ∙ every_twice (λ x v. sums x k) g before acc t.sum
        ∙ rewrite_ext (length before) (λ x v. g x (sums x k)) (λ x v. sums x (k + m)) before (λ x v i. h x i) in
        record { upto = l; kept = ap length e ∙ length-rewrite _ _ _; sum = e }

    -- a turn adds the term k
    pub summed_more : (g : ℕ → Float → Float) (after : List Float) → k < most
        → ((x : ℕ) → x < length before → g x (sums x k) ≡ sums x (suc k)) → after ≡ every g acc → Summed sums most (k + 1) before after
    summed_more g after l h f = summed_on 1 g after (omega arith) (λ x i. h x i ∙ ap (sums x) (sym (add-one k))) f

    pub summed_all : (entry : List Float) → most ≤ k → before ≡ fill (λ x. sums x 0) entry → acc ≡ fill (λ x. sums x most) entry
    summed_all entry l e =
        let full : k ≡ most = omega (arith, t.upto) in
        t.sum ∙ ap (λ (m : ℕ). fill (λ x. sums x m) before) full
        ∙ every_twice (λ x v. sums x 0) (λ x v. sums x most) entry before e
