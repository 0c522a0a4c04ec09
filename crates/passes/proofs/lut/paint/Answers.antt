-- `passes::lut::paint` meets its contract: three presets by their numbers, the others by the greys. Assumes nothing.
use Rattle.std.proofs.Common.{◌≡◌, ℕ, List, length, get_or, ◌∙◌, arith}
use lib.Ieee.{Float}
use Rattle.num.specs.Rewrite.{every}
use Rattle.num.specs.Laws.Rewrite.{rewrite_ext}
use Rattle.passes.specs.Plain.Lut.{colour}
use Rattle.passes.specs.Private.{Greys, mark_unit, picked}
use Rattle.passes.proofs.Greys.{Alone, alone, picked-is}
use Rattle.passes.proofs.lut.paint.Goals as goal

by_tables : (preset : ℕ) (strength : Float) {reds greens blues : List ℕ} (frame : List ℕ) {out : List ℕ} → Alone preset
    → Greys 0 preset strength reds → Greys 1 preset strength greens → Greys 2 preset strength blues
    → out ≡ every (λ i. picked (λ k. get_or reds k 0) (λ k. get_or greens k 0) (λ k. get_or blues k 0)) frame → out ≡ every (λ i p. mark_unit (colour preset strength p)) frame
by_tables preset strength frame a s t u o = o ∙ rewrite_ext (length frame) _ _ frame (λ i p l. picked-is preset strength a p s t u)

pub returns-in_default : goal.returns-in_default
returns-in_default c = let args = c.args in
    by_tables args.preset args.strength args.frame.now (alone args.preset (λ e. omega arith) (λ e. omega arith) (λ e. omega arith))
    c.table-reds.ensures c.table-greens.ensures c.table-blues.ensures c.by_greys.ensures
