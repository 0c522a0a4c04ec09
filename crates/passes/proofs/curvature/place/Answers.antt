-- `passes::curvature::place` meets its contract: past the copy stands no word, and 0 is read. Assumes nothing.
use Rattle.std.proofs.Common.{◌≡◌, ℕ, ◌+◌, ◌*◌, true, false, List, length, get_or, sym, ◌∙◌, le_refl}
use lib.ListN.{get_or-eq_default}
use lib.Ieee.{Float}
use Rattle.num.specs.Index.{index_of}
use Rattle.passes.specs as Text
use Rattle.passes.specs.Plain.Curvature.{outside, sample}
use Rattle.passes.proofs.curvature.place.Goals as goal

module _ (w h : ℕ) (copy : List ℕ) (sx sy : Float) where
  beside : outside sx ≡ true → get_or copy (length copy) 0 ≡ sample w h copy sx sy
  unfolding Text.Curvature.sample
  beside e = rw e (get_or-eq_default copy 0 (le_refl (length copy)))

  above : outside sx ≡ false → outside sy ≡ true → get_or copy (length copy) 0 ≡ sample w h copy sx sy
  unfolding Text.Curvature.sample
  above e f = rw (e, f) (get_or-eq_default copy 0 (le_refl (length copy)))

  there : outside sx ≡ false → outside sy ≡ false → {a b : ℕ} → a ≡ index_of h sy → b ≡ index_of w sx → get_or copy (a * w + b) 0 ≡ sample w h copy sx sy
  unfolding Text.Curvature.sample
  there e f p q = rw (e, f, p, q)

pub returns-then-outside : goal.returns-then-outside
returns-then-outside c = beside _ _ _ _ _ (sym c.outside.ensures ∙ c.if-outside.true)

pub returns-then-outside-2 : goal.returns-then-outside-2
returns-then-outside-2 c = above _ _ _ _ _ (sym c.outside.ensures ∙ c.if-outside.false) (sym c.outside-else-outside.ensures ∙ c.if-outside-2.true)

pub returns-else-outside-2 : goal.returns-else-outside-2
returns-else-outside-2 c = there _ _ _ _ _ (sym c.outside.ensures ∙ c.if-outside.false) (sym c.outside-else-outside.ensures ∙ c.if-outside-2.false)
    c.index.ensures.0 c.index-2.ensures.0
