-- Two lines that a loop goes over side by side: at i, the words of each place below i are as P says, and those from i on as Q does. Assumes
-- nothing.
use mathlib.Core.Path.{◌≡◌, sym, subst₂, ◌∙◌}
use mathlib.Core.List.{List}
use Prim.Native.Nat.{ℕ, ◌+◌, ◌≤◌, ◌<◌}
use native.Mathlib.Decide.{dec_lt}
use native.Mathlib.Omega.{arith}
use lib.ListN.{length, get_or, set, length-set}
use lib.Seq.{get_or-set_same, get_or-set_other}

pub record Paired (n i : ℕ) (P Q : ℕ → ℕ → ℕ → Type 0) (xs ys : List ℕ) : Type 0 where
  pub within : i ≤ n
  pub first : length xs ≡ n
  pub second : length ys ≡ n
  pub done : (k : ℕ) → k < i → P k (get_or xs k 0) (get_or ys k 0)
  pub ahead : (k : ℕ) → i ≤ k → k < n → Q k (get_or xs k 0) (get_or ys k 0)

-- the loop has done one place more
pub next : {n i : ℕ} {P Q : ℕ → ℕ → ℕ → Type 0} {xs ys : List ℕ} → Paired n i P Q xs ys → {v w : ℕ} → i < n → P i v w
    → Paired n (i + 1) P Q (set xs i v) (set ys i w)
next {n} {i} {P} {Q} {xs} {ys} t {v} {w} l h = record {
  within = omega arith;
  first = length-set xs i v ∙ t.first;
  second = length-set ys i w ∙ t.second;
  done = λ k m. go k m (dec_lt k i);
  ahead = λ k m o. subst₂ (Q k) (sym (get_or-set_other xs i k v 0 (omega arith))) (sym (get_or-set_other ys i k w 0 (omega arith))) (t.ahead k (omega arith) o);
}
  where
    go : (k : ℕ) → k < i + 1 → Dec (k < i) → P k (get_or (set xs i v) k 0) (get_or (set ys i w) k 0)
    go k m (yes p) = subst₂ (P k) (sym (get_or-set_other xs i k v 0 (omega arith))) (sym (get_or-set_other ys i k w 0 (omega arith))) (t.done k p)
    go k m (no p) =
        let same : k ≡ i = omega arith in
        rw same (subst₂ (P i) (sym (get_or-set_same xs i v 0 (omega (arith, t.first)))) (sym (get_or-set_same ys i w 0 (omega (arith, t.second)))) h)
