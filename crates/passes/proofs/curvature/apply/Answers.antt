-- `passes::curvature::apply` meets its contract. Assumes nothing.
use Rattle.std.proofs.Common.{◌≡◌, ℕ, List, ◌++◌, length, take, drop, ap, ◌∙◌, take_at, drop_at}
use Rattle.passes.specs as Text
use Rattle.passes.specs.Plain.Curvature.{bent}
use Rattle.passes.proofs.curvature.apply.Goals as goal
use Rattle.passes.proofs.curvature.apply.Lts as lts
use Rattle.passes.proofs.curvature.apply.Reads as reads
use Rattle.passes.proofs.curvature.apply.Tie as tie

-- the scratch begins with the frame, and goes on as it was
copied : (c : lts.After-copy tie.the-claims reads.Pre reads.Post tie.handed_clauses) → let a = c.args in
    take (length a.frame.now) (c.copy.new.to ++ drop (length a.frame.now) a.scratch.now) ≡ a.frame.now
copied c =
    let a = c.args in
    let n = length a.frame.now in
    take_at c.copy.new.to (drop n a.scratch.now) n (ap length c.copy.ensures) ∙ c.copy.ensures

pub returns : goal.returns
unfolding Text.Curvature.curvature
returns c = let a = c.args in (
  c.rows.ensures ∙ ap (λ (z : List ℕ). bent a.width a.height a.amount z a.frame.now) (copied c.before.before.before.before.before.before.before),
  drop_at c.copy.new.to (drop (length a.frame.now) a.scratch.now) (length a.frame.now) (ap length c.copy.ensures),
)
