-- `passes::blur::add_edge` meets its contract. Assumes nothing.
use Rattle.std.proofs.Common.{ℕ, ◌+◌, ◌*◌, ◌≤◌, length, sym, arith}
use lib.Ieee.{nan}
use Rattle.num.specs.Laws.Rewrite.{none, more}
use Rattle.num.specs.Sums.{sum}
use Rattle.num.specs.Laws.Sums.{sum-zero, sum_more, sum_bound}
use Rattle.passes.specs.Private.{insides}
use Rattle.passes.proofs.Counted.{insides-few}
use Rattle.passes.proofs.blur.add_edge.Goals as goal

-- no place takes more than four
few : (n radius k start i : ℕ) → sum i (λ i. insides n radius k 4 (start + i)) ≤ i * 4
few n radius k start i = sum_bound i 4 _ (λ j. insides-few n radius k 4 (start + j))

pub loop-i-init : goal.loop-i-init
loop-i-init c = (none _ _, sym (sum-zero _))

pub overflow_add-samples : goal.overflow_add-samples
overflow_add-samples c = let l = c.loop-i in
    let a = c.args in
    let n = length a.src.now in
    omega (arith, l.invariant.1, c.add_samples-sum.ensures.1, few n a.radius a.k a.start l.i, insides-few n a.radius a.k 4 (a.start + l.i))

pub loop-i-preserved : goal.loop-i-preserved
loop-i-preserved c = let l = c.loop-i in
    let a = c.args in
    let e = c.add_samples-sum.ensures in (
      more l.invariant.0 nan (omega arith) e.0,
      omega (arith, l.invariant.1, e.1, sum_more l.i (λ i. insides (length a.src.now) a.radius a.k 4 (a.start + i))),
    )
