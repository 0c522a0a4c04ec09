-- `passes::blur::accumulate` meets its contract: after k offsets each place has the definition's sum over the first k. Assumes nothing.
use Rattle.std.proofs.Common.{◌≡◌, ℕ, ◌+◌, length, sym, ◌∙◌, ap₂, arith}
use Rattle.num.specs.F32.{◌⊗◌}
use Rattle.num.specs.Sums.{sum}
use Rattle.passes.specs as Text
use Rattle.passes.specs.Private.{at, insides}
use Rattle.passes.proofs.Counted.{upto, upto_none, upto-on, upto_all, upto-small}
use Rattle.passes.proofs.Offsets.{total-onward}
use Rattle.passes.proofs.Sums.{filled, summed_none, summed_on, summed_all}
use Rattle.passes.proofs.blur.accumulate.Goals as goal

-- what a turn counts, and that it fits
counts : (n radius k offsets : ℕ) {samples taken : ℕ} → samples ≡ upto n radius k → taken ≡ sum n (insides n radius k offsets) → samples + taken ≡ upto n radius (k + offsets)
counts n radius k offsets e f = ap₂ (λ (a b : ℕ). a + b) e f ∙ upto-on n radius k offsets

pub loop-k-init : goal.loop-k-init
unfolding Text.Blur.total
loop-k-init c = let a = c.args in
    (summed_none a.acc.now _ (c.fill.ensures.after (λ y e. e) ∙ filled _ a.acc.now), sym (upto_none (length a.src.now) a.radius))

pub overflow_add-samples : goal.overflow_add-samples
overflow_add-samples c =
    let o = c.add_offsets-taken in
    let n = length c.args.src.now in
    let e = counts n c.args.radius c.loop-k.k o.result.offsets c.loop-k.invariant.1 o.ensures.3 in
    omega (arith, e, upto-small n c.args.radius (c.loop-k.k + o.result.offsets) c.requires.2 (omega (arith, o.ensures.1, c.requires.1)))

pub loop-k-preserved : goal.loop-k-preserved
loop-k-preserved c = let o = c.add_offsets-taken in
    let l = c.loop-k in
    let a = c.args in
    let r = o.result.offsets in (
      summed_on l.invariant.0 r _ _ o.ensures.1 (λ x q. total-onward (λ i w. at a.src.now i ⊗ w) (length a.src.now) a.radius x l.k r) o.ensures.2,
      counts (length a.src.now) a.radius l.k r l.invariant.1 o.ensures.3,
    )

pub returns : goal.returns
unfolding Text.Blur.total
returns c = let l = c.loop-k in
    let a = c.args in (
      summed_all l.invariant.0 a.acc.now c.loop-k-test.false (c.fill.ensures.after (λ y e. e) ∙ filled _ a.acc.now),
      l.invariant.1 ∙ upto_all (length a.src.now) a.radius l.k (omega (arith, l.invariant.0.upto)),
    )
