-- `chain::refusals::depth` meets its contract: the sum of the first i depths. Assumes nothing.
use Rattle.std.specs.Prelude.{ℕ, ◌≡◌, ◌+◌, take}
use Rattle.std.proofs.Common.{arith, refl, sym, ap, add-one, ◌∙◌}
use lib.Seq.{take_all}
use Rattle.cards.specs.Laws.Scans.{past}
use Rattle.chain.specs.Chain.{depth}
use Rattle.chain.proofs.Depths.{depth_more}
use Rattle.chain.proofs.refusals.depth.Goals as goal

pub loop-r-init : goal.loop-r-init
unfolding depth
loop-r-init c = (refl, omega arith)

pub loop-r-preserved : goal.loop-r-preserved
loop-r-preserved c = let rs = c.args.records.now in
    let i = c.loop-r.r-index in
    let more : depth (take (i + 1) rs) ≡ c.loop-r.sum + c.depth_of-sum.result =
    ap (λ (k : ℕ). depth (take k rs)) (add-one i) ∙ depth_more rs i past c.loop-r-test.true ∙ omega (arith, c.loop-r.invariant.0, c.depth_of-sum.ensures.0) in
    (sym more, omega (arith, c.loop-r.invariant.1, c.depth_of-sum.ensures.1))

pub returns : goal.returns
returns c = let rs = c.args.records.now in
    (c.loop-r.invariant.0 ∙ ap depth (take_all c.loop-r.r-index rs c.loop-r-test.false), omega (arith, c.loop-r.invariant.1))
