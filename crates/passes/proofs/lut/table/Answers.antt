-- `passes::lut::table` meets its contract. Assumes nothing.
use Rattle.std.proofs.Common.{◌≡◌, ℕ, ◌*◌, ◌<◌, List, length, get_or, replicate, refl, sym, ap, ◌∙◌, subst}
use lib.Ieee.{Float}
use Rattle.num.specs.Rewrite.{fill}
use Rattle.num.specs.Laws.Rewrite.{get_d_fill, length-rewrite}
use Rattle.passes.specs.Plain.Lut.{colour}
use Rattle.passes.specs.Private.{Greys, entry}
use Rattle.passes.proofs.lut.table.Goals as goal

filled : (which preset : ℕ) (strength : Float) (xs ys : List ℕ) → ◌≡◌ {A = ℕ} 256 (length xs) → ys ≡ fill (λ k. entry which (colour preset strength (k * 65793))) xs → Greys which preset strength ys
filled which preset strength xs ys l e = record {
  room = l ∙ sym (ap length e ∙ length-rewrite (length xs) _ xs);
  at = λ k h. ap (λ (z : List ℕ). get_or z k 0) e ∙ get_d_fill (λ k. entry which (colour preset strength (k * 65793))) xs k 0 (subst (λ (n : ℕ). k < n) l h);
}

pub returns : goal.returns
returns c = filled _ _ _ (replicate 256 0) _ refl c.greys.ensures
