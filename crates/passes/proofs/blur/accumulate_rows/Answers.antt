-- `passes::blur::accumulate_rows` meets its contract: after k offsets each column has the definition's sum over the first k. Assumes nothing.
use Rattle.std.proofs.Common.{ℕ, ◌+◌, sym, ap, ◌∙◌, arith}
use Rattle.num.specs.F32.{◌⊗◌}
use Rattle.num.specs.Rewrite.{every, fill}
use Rattle.passes.specs as Text
use Rattle.passes.specs.Plain.Blur.{weighted}
use Rattle.passes.specs.Private.{cell, onward}
use Rattle.num.specs.Sums.{sum}
use Rattle.num.specs.Laws.Sums.{sum-zero}
use Rattle.passes.specs.Samples.{once}
use Rattle.passes.proofs.Counted.{place-on, place-few}
use Rattle.passes.proofs.Offsets.{total-onward}
use Rattle.passes.proofs.Sums.{filled, summed_none, summed_on, summed_all}
use Rattle.passes.proofs.blur.accumulate_rows.Goals as goal

pub loop-k-init : goal.loop-k-init
unfolding Text.Blur.total
loop-k-init c = let a = c.args in
    (summed_none a.acc.now _ (c.fill.ensures.after (λ y e. e) ∙ filled _ a.acc.now), sym (sum-zero (once a.height a.radius a.y)))

pub overflow_add-samples : goal.overflow_add-samples
overflow_add-samples c =
    let o = c.add_rows-taken in
    let a = c.args in
    let k = c.loop-k.k in
    omega (arith, place-few a.height a.radius a.y (k + o.result.offsets) (place-on a.height a.radius a.y k o.result.offsets c.loop-k.invariant.1 o.ensures.3), o.ensures.1)

pub loop-k-preserved : goal.loop-k-preserved
loop-k-preserved c = let o = c.add_rows-taken in
    let l = c.loop-k in
    let a = c.args in
    let r = o.result.offsets in (
      summed_on l.invariant.0 r _ _ o.ensures.1 (λ x q. total-onward _ a.height a.radius a.y l.k r)
          (o.ensures.2
          ∙ ap (λ (m : ℕ). every (λ x. onward (λ i w. cell a.plane.now m x i ⊗ w) a.height a.radius a.y l.k r) l.acc) l.invariant.0.kept),
      place-on a.height a.radius a.y l.k r l.invariant.1 o.ensures.3,
    )

pub returns : goal.returns
unfolding Text.Blur.total
returns c = let l = c.loop-k in
    let a = c.args in
    let cleared = c.fill.ensures.after (λ y e. e) ∙ filled _ a.acc.now in (
      summed_all l.invariant.0 a.acc.now c.loop-k-test.false cleared
          ∙ ap (λ (n : ℕ). fill (λ x. weighted (λ i. cell a.plane.now n x i) a.height a.radius a.y) a.acc.now) c.fill.ensures.len,
      l.invariant.1 ∙ ap (λ (k : ℕ). sum k (once a.height a.radius a.y)) (omega (arith, l.invariant.0.upto)),
    )
