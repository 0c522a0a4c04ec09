-- `passes::persistence::blend_parts` meets its contract: part by part. Assumes nothing.
use Rattle.std.proofs.Common.{◌≡◌, ℕ, ◌+◌, List, subst, arith}
use Rattle.num.specs.Laws.Rewrite.{Rewritten, none, all, further}
use Rattle.passes.proofs.persistence.blend_parts.Goals as goal

as_many : {i j : ℕ} {f : ℕ → ℕ → ℕ} {xs ys : List ℕ} → i ≡ j → Rewritten i f xs ys → Rewritten j f xs ys
as_many {f = f} {xs = xs} {ys = ys} e t = subst (λ (k : ℕ). Rewritten k f xs ys) e t

pub loop-at-init : goal.loop-at-init
loop-at-init c = none _ _

-- the part was a whole one
pub loop-at-preserved : goal.loop-at-preserved
loop-at-preserved c = let l = c.loop-at in
    let whole : l.at + c.min-count.result ≡ l.at + 64 = omega arith in
    as_many whole (further (l.at + c.min-count.result) l.invariant (omega arith) _ (omega arith) c.blend_part.ensures)

-- it was the last
pub returns-2 : goal.returns-2
returns-2 c = let l = c.loop-at in
    let done = further (l.at + c.min-count.result) l.invariant (omega arith) _ (omega arith) c.blend_part.ensures in
    all done (omega (arith, done.kept))
