-- A line of words: written word by word or three at once, or changed from a place on. Assumes nothing.
use Prim.Native.Nat.{ℕ, ◌+◌, ◌≤◌, ◌<◌}
use mathlib.Core.Path.{◌≡◌, refl, sym, ap, subst, ◌∙◌}
use mathlib.Core.List.{List}
use native.Mathlib.Decide.{dec_lt}
use native.Mathlib.Omega.{arith}
use lib.ListN.{length, get_or, set, length-set}
use lib.Seq.{get_or-set_same, get_or-set_other, ext_get_or}
use Rattle.num.specs.Rewrite.{rewrite}
use Rattle.num.specs.Laws.Rewrite.{length-rewrite, get_d_rewrite, get_d_rewrite-rest}
use Rattle.areas.specs.Private.{Changed, Line}

-- ## From a place on

-- a loop begins there, and changes one word more
pub unchanged : (from : ℕ) (f : ℕ → ℕ → ℕ) (xs : List ℕ) → Changed from from f xs xs
unchanged from f xs = record { kept = refl; before = λ x l. refl; at = λ x l m. absurd (omega arith); rest = λ x l. refl }

module _ {from to : ℕ} {f : ℕ → ℕ → ℕ} {xs ys : List ℕ} (t : Changed from to f xs ys) where
  pub change : {v : ℕ} → from ≤ to → to < length ys → v ≡ f to (get_or ys to 0) → Changed from (to + 1) f xs (set ys to v)
  change {v} l m e = record {
    kept = length-set ys to v ∙ t.kept;
    before = λ x h. other x (omega arith) ∙ t.before x h;
    at = λ x h i. go x h i (dec_lt x to);
    rest = λ x h. other x (omega arith) ∙ t.rest x (omega arith);
  }
    where
      other : (x : ℕ) → (x ≡ to → ⊥) → get_or (set ys to v) x 0 ≡ get_or ys x 0
      other x n = get_or-set_other ys to x v 0 n

      go : (x : ℕ) → from ≤ x → x < to + 1 → Dec (x < to) → get_or (set ys to v) x 0 ≡ f x (get_or xs x 0)
      go x h i (yes p) = other x (omega arith) ∙ t.at x h p
      go x h i (no p) =
          let same : x ≡ to = omega arith in
          rw same (get_or-set_same ys to v 0 m ∙ e ∙ ap (f to) (t.rest to (omega arith)))

  -- the loop is done
  pub change_done : {n : ℕ} → to ≡ n → Changed from n f xs ys
  change_done e = subst (λ (k : ℕ). Changed from k f xs ys) e t

  -- from the first word on
  pub as_rewrite : from ≡ 0 → to ≤ length xs → ys ≡ rewrite to f xs
  as_rewrite z l = ext_get_or 0 ys (rewrite to f xs) (t.kept ∙ sym (length-rewrite to f xs)) (λ x m. go x (dec_lt x to))
    where
      go : (x : ℕ) → Dec (x < to) → get_or ys x 0 ≡ get_or (rewrite to f xs) x 0
      go x (yes p) = t.at x (omega arith) p ∙ sym (get_d_rewrite to f xs x 0 p (omega arith))
      go x (no p) = t.rest x (omega arith) ∙ sym (get_d_rewrite-rest to f xs x 0 (omega arith))

-- ## A line of which some words are known

pub blank : {n : ℕ} {xs : List ℕ} (i : ℕ) (f : ℕ → ℕ) → length xs ≡ n → Line n i i f xs
blank i f e = record { long = e; at = λ x h l. absurd (omega arith) }

module _ {n i j : ℕ} {f : ℕ → ℕ} {xs : List ℕ} (t : Line n i j f xs) where
  -- one word more
  longer : {v : ℕ} → j < n → v ≡ f j → Line n i (j + 1) f (set xs j v)
  longer {v} l e = record { long = length-set xs j v ∙ t.long; at = λ x h m. go x h m (dec_lt x j) }
    where
      go : (x : ℕ) → i ≤ x → x < j + 1 → Dec (x < j) → get_or (set xs j v) x 0 ≡ f x
      go x h m (yes p) =
          let other : x ≡ j → ⊥ = omega arith in
          get_or-set_other xs j x v 0 other ∙ t.at x h p
      go x h m (no p) =
          let same : x ≡ j = omega arith in
          rw same (get_or-set_same xs j v 0 (omega (arith, t.long)) ∙ e)

  -- every word by the rule g
  pub changed : {ys : List ℕ} {g : ℕ → ℕ → ℕ} (h : ℕ → ℕ) → Changed i j g xs ys → ((x : ℕ) → i ≤ x → x < j → g x (f x) ≡ h x) → Line n i j h ys
  changed {g = g} h c rule = record { long = c.kept ∙ t.long; at = λ x k m. c.at x k m ∙ ap (g x) (t.at x k m) ∙ rule x k m }

-- three words at once
pub three : {n i j : ℕ} {f : ℕ → ℕ} {xs : List ℕ} {a b c : ℕ} → Line n i j f xs → j + 2 < n → a ≡ f j → b ≡ f (j + 1) → c ≡ f (j + 2)
    → Line n i (j + 3) f (set (set (set xs j a) (j + 1) b) (j + 2) c)
three {n} {i} {j} {f} {xs} {a} {b} {c} t l ea eb ec =
    let two : j + 1 + 1 ≡ j + 2 = omega arith in
    let last : j + 2 + 1 ≡ j + 3 = omega arith in
    let t1 : Line n i (j + 1) f (set xs j a) = longer t (omega arith) ea in
    let t2 : Line n i (j + 1 + 1) f (set (set xs j a) (j + 1) b) = longer t1 (omega arith) eb in
    let t3 : Line n i (j + 2 + 1) f (set (set (set xs j a) (j + 1) b) (j + 2) c) =
    longer (subst (λ (k : ℕ). Line n i k f (set (set xs j a) (j + 1) b)) two t2) (omega arith) ec in
    subst (λ (k : ℕ). Line n i k f (set (set (set xs j a) (j + 1) b) (j + 2) c)) last t3
