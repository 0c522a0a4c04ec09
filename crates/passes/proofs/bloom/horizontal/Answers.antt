-- `passes::bloom::horizontal` meets its contract: row by row, three channels to a row of the planes. Assumes nothing.
use Rattle.std.proofs.Common.{◌≡◌, ℕ, ◌+◌, ◌-◌, ◌*◌, ◌/◌, ◌%◌, ◌<◌, List, length, refl, get_or, take, drop, sym, ap, ◌∙◌, zero-mul, arith}
use Rattle.passes.specs.Plain.Bloom.{bright_of}
use Rattle.passes.specs.Samples.{samples as samples_of}
use Rattle.passes.specs.Private.{at, blur_by}
use Rattle.passes.proofs.Counted.{rows_on, rows_few}
use Rattle.passes.proofs.RowLoops.{begin_rows, next_row_by}
use Rattle.passes.proofs.Planes.{beside, row_across}
use Rattle.passes.proofs.bloom.horizontal.Goals as goal

-- the row that is lent beside the planes' row
frame_row : (frame : List ℕ) (w h y : ℕ) → length frame ≡ h * w → y < h → length (take (y * w + w - y * w) (drop (y * w) frame)) ≡ w
frame_row frame w h y area l = beside frame w h y (y * w) area l refl

pub loop-y-init : goal.loop-y-init
loop-y-init c = (c.requires.fact_1.2, sym (zero-mul (samples_of c.args.width c.args.radius)), begin_rows _ c.requires.fact_1.1)

pub overflow_add-samples : goal.overflow_add-samples
overflow_add-samples c = let o = c.loop-y in
    let a = c.args in
    let p = c.requires in
    let row = frame_row a.frame.now a.width a.height o.y p.fact_2.area c.loop-y-test.true in
    let counts = rows_on o.y (samples_of a.width a.radius) o.invariant.1 (c.horizontal_row-samples.ensures.1 ∙ ap (λ (m : ℕ). samples_of m a.radius) row) in
    omega (arith, rows_few (o.y + 1) a.width a.radius (omega (arith, c.loop-y-test.true, p.fact_2.high)) p.fact_2.wide p.fact_1.0 counts)

pub loop-y-preserved : goal.loop-y-preserved
loop-y-preserved c = let o = c.loop-y in
    let l = o.invariant in
    let a = c.args in
    let t = c.loop-y-test.true in
    let area = c.requires.fact_2.area in
    let from = o.y * a.width in
    let part = take (from + a.width - from) (drop from a.frame.now) in
    let long = frame_row a.frame.now a.width a.height o.y area t in (
      c.horizontal_row-samples.auto.line ∙ l.0,
      rows_on o.y (samples_of a.width a.radius) l.1 (c.horizontal_row-samples.ensures.1 ∙ ap (λ (m : ℕ). samples_of m a.radius) long),
      next_row_by l.2 (λ j v. blur_by (at a.w.now) (λ n. bright_of a.threshold (j / length part) (get_or part n 0)) (length part) a.radius (j % length part)) _ t
          (λ j v q. ap (λ (m : ℕ). blur_by (at a.w.now) (λ n. bright_of a.threshold (j / m) (get_or part n 0)) (length part) a.radius (j % m)) long
          ∙ row_across a.frame.now a.width a.height o.y from area t refl (at a.w.now) a.threshold (j / a.width) a.radius (j % a.width))
          c.horizontal_row-samples.ensures.0,
    )
