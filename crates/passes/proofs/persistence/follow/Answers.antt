-- `passes::persistence::follow` meets its contract: the weights stand at the front of a local line. Assumes nothing.
use Rattle.std.proofs.Common.{◌≡◌, ℕ, ◌<◌, List, ◌++◌, length, get_or, take, drop, refl, ap, ◌∙◌, arith, length-take-le, take_at}
use lib.Ieee.{Float, nan}
use Rattle.num.specs.Const.{c1_0, c255_0}
use Rattle.num.specs.F32.{◌⊘◌}
use Rattle.passes.specs as Text
use Rattle.passes.specs.Arith.{plain}
use Rattle.passes.specs.Plain.Persistence.{total, weight, mix, blend, shifted}
use Rattle.passes.specs.Plain.Pixel.{pack_clamped, clips}
use Rattle.passes.specs.Laws.Persistence.{mix_same}
use Rattle.passes.specs.Private.{blended_word, unmarked}
use Rattle.passes.specs.Painted.{Painted, from_clamped}
use Rattle.passes.specs.Laws.Painted.{converted_ext}
use Rattle.passes.proofs.Collected.{collected_clamped}
use Rattle.num.specs.Rewrite.{every, fill}
use Rattle.num.specs.Laws.Rewrite.{get_d_fill, length-rewrite}
use Rattle.passes.proofs.persistence.follow.Goals as goal
use Rattle.passes.proofs.persistence.follow.Lts as lts
use Rattle.passes.proofs.persistence.follow.Reads as reads
use Rattle.passes.proofs.persistence.follow.Tie as tie

-- the picture by weights that are handed in
unfoldable blended : Float → (ℕ → Float) → ℕ → (past frame : List ℕ) → Painted
blended w ws k past frame = from_clamped plain (λ i p. mix w ws past (length frame) i p k) frame

-- those of the k older frames alone count
blended_same : (w : Float) (ws vs : ℕ → Float) (k : ℕ) (past frame : List ℕ) → ((j : ℕ) → j < k → ws j ≡ vs j)
    → blended w ws k past frame ≡ blended w vs k past frame
unfolding blended
blended_same w ws vs k past frame f =
    converted_ext pack_clamped (clips c255_0) frame _ _
    (λ i p l. mix_same w ws vs past past (length frame) i p k f (λ j h. refl))

-- the picture, once its marks are collected
blends : (w : Float) (ws : ℕ → Float) (k : ℕ) (past frame ys : List ℕ) {out : Painted} → ys ≡ every (blended_word w ws k past (length frame)) frame → out ≡ unmarked ys → out ≡ blended w ws k past frame
unfolding blended_word blended
blends w ws k past frame ys e o = collected_clamped (λ i p. mix w ws past (length frame) i p k) frame ys e o

-- a blend by weights that were filled in
by_weights : {picture : Painted} {ws : List Float} {sum : Float} (line : List Float) (amount : Float) (k : ℕ) (past frame : List ℕ) → length line ≡ k
    → picture ≡ blended (c1_0 ⊘ sum) (λ j. get_or ws j nan) (length ws) past frame → ws ≡ fill (weight amount sum) line → sum ≡ total amount k
    → picture ≡ blend amount k past frame
unfolding Text.Persistence.blend blended
by_weights {picture} {ws} {sum} line amount k past frame l h e s =
    let many : length ws ≡ k = ap length e ∙ length-rewrite (length line) _ line ∙ l in
    h ∙ ap (λ (m : ℕ). blended (c1_0 ⊘ sum) (λ j. get_or ws j nan) m past frame) many
    ∙ blended_same (c1_0 ⊘ sum) (λ j. get_or ws j nan) (weight amount sum) k past frame (λ j h. rw e (get_d_fill (weight amount sum) line j nan (omega arith)))
    ∙ ap (λ (t : Float). blended (c1_0 ⊘ t) (weight amount t) k past frame) s

-- the part of the line that is lent
part : (c : lts.After-line tie.the-claims reads.Pre reads.Post) → let k = c.args.depth in length (take k c.line-ws.result) ≡ k
part c = length-take-le _ c.line-ws.result (omega (arith, c.line-ws.ensures, c.requires.0))

-- the line begins with the weights, as many as the depth
begins : (c : lts.After-weights tie.the-claims reads.Pre reads.Post) → let k = c.args.depth in
    take k (c.weights.new.out ++ drop k c.line-ws.result) ≡ c.weights.new.out
begins c = take_at c.weights.new.out _ _ (c.weights.auto.out ∙ part c.before.before)

many : (c : lts.After-weights tie.the-claims reads.Pre reads.Post) → let k = c.args.depth in
    length (take k (c.weights.new.out ++ drop k c.line-ws.result)) ≡ k
many c = ap length (begins c) ∙ c.weights.auto.out ∙ part c.before.before

pub returns : goal.returns
returns c = let a = c.args in (
  by_weights (take a.depth c.line-ws.result) _ a.depth _ _ (part c.before.before.before.before.before.before.before.before.before.before.before.before.before.before.before.before.before.before.before.before) (blends _ _ _ _ _ _ c.blend_parts.ensures c.collect-clipped.ensures) (begins c.before.before.before.before.before.before.before.before.before.before.before.before.before.before.before.before.before.before ∙ c.weights.ensures)
      c.total-sum.ensures,
  c.shift.ensures ∙ ap (λ (z : List ℕ). shifted a.depth z a.history.now) c.copy.ensures,
)
