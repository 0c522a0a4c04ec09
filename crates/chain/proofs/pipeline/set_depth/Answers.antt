-- `chain::pipeline::set_depth` meets its contract: the first persistence is found, the history follows its new depth, it is changed in its place, and
-- with another depth those behind it are forgotten. Assumes nothing.
use Rattle.std.specs.Prelude.{◌≡◌, suc, ◌-◌}
use Rattle.std.proofs.Common.{Err, rules, arith, sym, add-one}
use Rattle.num.specs.Laws.Refusals.{number-some}
use Rattle.chain.proofs.Deeper.{depth_known}
use Rattle.chain.proofs.Replies.{depth_lacks, depth_far, depth_short, redepths_same, redepths_other}
use Rattle.chain.proofs.pipeline.set_depth.Goals as goal

pub returns-in_err-at : goal.returns-in_err-at
returns-in_err-at c =
    let s : c.from_residual.result ≡ Err c.in_err-at.field-0.0 = search rules in
    rw s (depth_lacks _ _ _ _ c.in_err-at.ensures.refusal (number-some c.in_err-at.field-0.0))

pub returns-then-depth-gt8 : goal.returns-then-depth-gt8
returns-then-depth-gt8 c = depth_far _ _ c.in_ok-at.ensures.place _ _ c.in_ok-at.ensures.refusal c.if-depth-gt8.true

pub returns-then-history-d : goal.returns-then-history-d
returns-then-history-d c =
    depth_short _ _ c.in_ok-at.ensures.place _ _ c.in_ok-at.ensures.refusal c.if-depth-gt8.false c.one_at_least-d.ensures c.area-count.ensures.0 c.if-history-d.true

pub resize-requires : goal.resize-requires
resize-requires c = (omega (arith, c.depth_of-before.ensures.0, depth_known _ _ c.in_ok-at.ensures.place (sym c.in_ok-at.ensures.refusal)), c.if-history-d.false)

pub returns-then-before-d : goal.returns-then-before-d
returns-then-before-d c =
    let at = c.in_ok-at.at in
    let n = c.args.station.now.n in
    rw (add-one at)
    (redepths_other _ _ c.in_ok-at.ensures.place _ _ c.in_ok-at.ensures.refusal c.if-depth-gt8.false c.one_at_least-d.ensures c.depth_of-before.ensures.0
    c.area-count.ensures.0 c.if-history-d.false c.deepened.ensures c.resize.ensures (n - suc at) (omega (arith, c.in_ok-at.ensures.place.first.within))
    (rw (add-one at) at c.forget.ensures) c.if-before-d.true)

pub returns-else-before-d : goal.returns-else-before-d
returns-else-before-d c =
    redepths_same _ _ c.in_ok-at.ensures.place _ _ c.in_ok-at.ensures.refusal c.if-depth-gt8.false c.one_at_least-d.ensures c.depth_of-before.ensures.0
    c.area-count.ensures.0 c.if-history-d.false c.deepened.ensures c.resize.ensures c.if-before-d.false
