-- `passes::bloom::composite_rows` meets its contract: row by row, with the sums of each row over the columns. Assumes nothing.
use Rattle.std.proofs.Common.{◌≡◌, ℕ, ◌+◌, ◌-◌, ◌*◌, ◌<◌, List, length, take, drop, sym, ap, ◌∙◌, one-mul, zero-mul, arith}
use lib.Ieee.{Float, nan}
use Rattle.passes.specs.Plain.Pixel.{rgb}
use Rattle.num.specs.Rewrite.{fill}
use Rattle.num.specs.Laws.Rewrite.{get_d_fill}
use Rattle.passes.specs.Plain.Blur.{weighted, weight_sum, quotient, down}
use Rattle.passes.specs.Plain.Bloom.{composite}
use Rattle.num.specs.Laws.Sums.{sum-zero}
use Rattle.passes.specs.Private.{at, cell, mark_clamped}
use Rattle.passes.proofs.Counted.{above_on, above-few, above_all, rows_few}
use Rattle.passes.proofs.RowLoops.{begin_rows, row_length, next_row_by, rows_all}
use Rattle.passes.proofs.Planes.{same_composite}
use Rattle.passes.proofs.bloom.composite_rows.Goals as goal

-- a place of the sums, divided by the row's sum of weights, is a sample blurred along its column
sum-down : (planes before sums : List Float) (w h radius y i j : ℕ) (q : Float) → length before ≡ 3 * w
    → sums ≡ fill (λ x. weighted (λ k. cell planes (length before) x k) h radius y) before → q ≡ weight_sum h radius y → i ≡ j → j < 3 * w
    → quotient (at sums i) q ≡ down h radius (λ x y. cell planes (3 * w) x y) j y
sum-down planes before sums w h radius y i j q e f g d l =
    ap (λ (n : ℕ). quotient (at sums n) q) d
    ∙ ap (λ (z : List Float). quotient (at z j) q) f
    ∙ ap (λ (z : Float). quotient z q) (get_d_fill (λ x. weighted (λ k. cell planes (length before) x k) h radius y) before j nan (omega arith))
    ∙ ap (λ (n : ℕ). quotient (weighted (λ k. cell planes n j k) h radius y) q) e
    ∙ ap (quotient (weighted (λ k. cell planes (3 * w) j k) h radius y)) g

pub loop-y-init : goal.loop-y-init
loop-y-init c = let p = c.requires in (p.fact_1.2, sym (sum-zero _), begin_rows _ p.fact_2.area)

pub overflow_add-taken : goal.overflow_add-taken
overflow_add-taken c = let o = c.loop-y in
    let a = c.args in
    let p = c.requires in
    let few = above-few a.height a.radius (o.y + 1) (omega (arith, c.loop-y-test.true, p.fact_2.high)) p.fact_1.0
    (above_on a.height a.radius o.y o.invariant.1 c.accumulate_rows-taken.ensures.1) in
    omega (arith, few)

pub loop-y-preserved : goal.loop-y-preserved
loop-y-preserved c = let o = c.loop-y in
    let a = c.args in
    let w = a.width in
    let t = c.loop-y-test.true in
    let part = take (o.y * w + w - o.y * w) (drop (o.y * w) o.frame) in
    let sums = c.accumulate_rows-taken.new.acc in
    let g = c.weight_sum-w.result in
    let n : length part ≡ w = row_length o.invariant.2 t in
    let down-at : (i j : ℕ) → i ≡ j → j < 3 * w → quotient (at sums i) g ≡ down a.height a.radius (λ x y. cell a.planes.now (3 * w) x y) j o.y
    = λ i j d l. sum-down a.planes.now o.sums sums w a.height a.radius o.y i j g o.invariant.0 c.accumulate_rows-taken.ensures.0 c.weight_sum-w.ensures d l in (
      c.accumulate_rows-taken.auto.acc ∙ o.invariant.0,
      above_on a.height a.radius o.y o.invariant.1 c.accumulate_rows-taken.ensures.1,
      next_row_by o.invariant.2 (λ x p. mark_clamped (composite a.strength (rgb (quotient (at sums x) g) (quotient (at sums (length part + x)) g) (quotient (at sums (2 * length part + x)) g)) p)) _ t
          (λ x p l. ap mark_clamped (same_composite a.strength p
          (down-at x (0 * w + x) (omega (arith, zero-mul w)) (omega (arith, zero-mul w)))
          (down-at (length part + x) (1 * w + x) (omega (arith, one-mul w)) (omega (arith, one-mul w)))
          (down-at (2 * length part + x) (2 * w + x) (omega arith) (omega arith))))
          c.composite_row.ensures,
    )

pub overflow_mul-result : goal.overflow_mul-result
overflow_mul-result c = let few = rows_few c.args.width c.args.height c.args.radius c.requires.fact_2.wide c.requires.fact_2.high c.requires.fact_1.0
    (ap (λ (m : ℕ). c.args.width * m) (above_all c.args.height c.args.radius c.loop-y.y (omega arith) c.loop-y.invariant.1)) in
    omega (arith, few)

pub returns : goal.returns
returns c = let l = c.loop-y in
    let a = c.args in
    (rows_all l.invariant.2 c.loop-y-test.false, ap (λ (m : ℕ). a.width * m) (above_all c.args.height c.args.radius c.loop-y.y (omega arith) c.loop-y.invariant.1))
