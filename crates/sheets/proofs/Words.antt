-- The words of a frame, put at their places one after another. Assumes nothing.
use Prim.Native.Nat.{ℕ, ◌+◌, ◌-◌, ◌<◌, ◌≤◌}
use native.Mathlib.Nat.{zero-add}
use native.Mathlib.Omega.{arith}
use mathlib.Core.List.{List, ◌++◌}
use mathlib.Core.Path.{◌≡◌, refl, sym, ap, subst, ◌∙◌}
use lib.ListN.{length, set, take, drop}
use Rattle.num.specs.Rewrite.{fill}
use Rattle.num.specs.Laws.Rewrite.{Rewritten, none, more, part, all}

-- the first n words are those of the rule f
abbrev pub Put : (ℕ → ℕ) → List ℕ → ℕ → List ℕ → Type 0
Put f words₀ n words = Rewritten n (λ k x. f k) words₀ words

-- and now word j, the next one
pub one_more : (f : ℕ → ℕ) {words₀ : List ℕ} {i j : ℕ} {words words' : List ℕ} → Put f words₀ i words → j ≡ i → j < length words
    → words' ≡ set words j (f j) → Put f words₀ (j + 1) words'
one_more f {words₀} {i} {j} {words} t e l h =
    subst (Put f words₀ (j + 1)) (sym h) (more (subst (λ (n : ℕ). Put f words₀ n words) (sym e) t) 0 l refl)

-- the same of n words, however n is written
pub so_many : {f : ℕ → ℕ} {words₀ words : List ℕ} {m n : ℕ} → m ≡ n → Put f words₀ m words → Put f words₀ n words
so_many {f} {words₀} {words} e t = subst (λ (k : ℕ). Put f words₀ k words) e t

-- the first n words were lent, and then the rest
pub two_parts : (f g h : ℕ → ℕ) (n : ℕ) (words some rest : List ℕ) → n ≤ length words → ((k : ℕ) → g k ≡ f k) → ((k : ℕ) → h k ≡ f (n + k))
    → some ≡ fill g (take n words)
    → rest ≡ fill h (take (length (some ++ drop n words) - n) (drop n (some ++ drop n words)))
    → take n (some ++ drop n words) ++ (rest ++ drop (length (some ++ drop n words) - n) (drop n (some ++ drop n words))) ≡ fill f words
two_parts f g h n words some rest l e e' d d' =
    let first : Put f words n (some ++ drop n words) = so_many (zero-add n) (part n (λ k x. g k) some (none (λ k x. f k) words) (omega (arith, l)) (λ k x m. e k ∙ ap f (sym (zero-add k))) d) in
    let second = part (length (some ++ drop n words) - n) (λ k x. h k) rest first (omega (arith, first.kept, l)) (λ k x m. e' k) d' in
    all second (omega (arith, first.kept, second.kept, l))
