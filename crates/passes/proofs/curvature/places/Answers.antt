-- `passes::curvature::places` meets its contract: what the copy has at the places so far is the bent row. Assumes nothing.
use Rattle.std.proofs.Common.{◌≡◌, ℕ, zero, suc, ◌+◌, ◌<◌, List, [], ◌∷◌, length, get_or, set, sym, refl, ap, ◌∙◌, subst, add-one, length-set, arith}
use Rattle.num.specs.Rewrite.{rewrite}
use Rattle.num.specs.Laws.Rewrite.{Rewritten, none, more, length-rewrite}
use Rattle.passes.proofs.curvature.places.Invariants.{Placed}
use Rattle.passes.proofs.curvature.places.Goals as goal

-- a word that is stored, and read with those before it
set_first : (x : ℕ) (g : ℕ → ℕ → ℕ) (line : List ℕ) (v : ℕ) → set (rewrite x g line) x (g x v) ≡ rewrite (suc x) g (set line x v)
unfolding rewrite
set_first zero g [] v = refl
set_first zero g (p ∷ line) v = refl
set_first (suc x) g [] v = refl
set_first (suc x) g (p ∷ line) v = ap (λ (l : List ℕ). g 0 p ∷ l) (set_first x (λ i. g (suc i)) line v)

one_more : {x : ℕ} {f : ℕ → ℕ} {copy before line : List ℕ} (v : ℕ) → Placed x f copy before line → x < length line → get_or copy v 0 ≡ f x
    → Placed (x + 1) f copy before (set line x v)
one_more {x} {f} {copy} {before} {line} v t l e = record {
  kept = length-set line x v ∙ t.kept;
  so_far =
      let g : ℕ → ℕ → ℕ = λ _ p. get_or copy p 0 in
      subst (λ (z : List ℕ). Rewritten (x + 1) (λ k _. f k) before z) (set_first x g line v ∙ ap (λ (k : ℕ). rewrite k g (set line x v)) (sym (add-one x)))
      (more t.so_far 0 (rw length-rewrite l) e);
}

pub loop-x-init : goal.loop-x-init
unfolding rewrite
loop-x-init c = record { kept = refl; so_far = none _ _ }

pub loop-x-preserved : goal.loop-x-preserved
loop-x-preserved c = one_more _ c.loop-x.invariant (omega arith) (cc)
