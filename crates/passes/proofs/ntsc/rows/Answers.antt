-- `passes::ntsc::rows` meets its contract: row by row. Assumes nothing.
use Rattle.std.proofs.Common.{ℕ, ◌+◌, ◌-◌, ◌*◌, take, drop, sym, ap, ◌∙◌, zero-mul, arith}
use Rattle.passes.specs.Plain.Ntsc.{pixel}
use Rattle.passes.specs.Samples.{samples as samples_of}
use Rattle.passes.specs.Private.{at, chroma_by, mark_clamped}
use Rattle.passes.proofs.Counted.{rows_on, rows_few}
use Rattle.passes.proofs.RowLoops.{begin_rows, row_length, next_row_by}
use Rattle.passes.proofs.Chroma.{chroma_across, same_pixel}
use Rattle.passes.proofs.ntsc.rows.Goals as goal

pub loop-y-init : goal.loop-y-init
loop-y-init c = let p = c.requires in
    (p.fact_1.1, p.fact_1.2, p.fact_1.3, sym (zero-mul (samples_of c.args.width c.args.bleed)), begin_rows _ p.fact_2.area)

pub overflow_add-samples : goal.overflow_add-samples
overflow_add-samples c = let o = c.loop-y in
    let a = c.args in
    let p = c.requires in
    let counts = rows_on o.y (samples_of a.width a.bleed) o.invariant.3
    (c.row-samples.ensures.1 ∙ ap (λ (m : ℕ). samples_of m a.bleed) (row_length o.invariant.4 c.loop-y-test.true)) in
    omega (arith, rows_few (o.y + 1) a.width a.bleed (omega (arith, c.loop-y-test.true, p.fact_2.high)) p.fact_2.wide p.fact_1.0 counts)

pub loop-y-preserved : goal.loop-y-preserved
loop-y-preserved c = let o = c.loop-y in
    let l = o.invariant in
    let a = c.args in
    let t = c.loop-y-test.true in
    let part = take (o.y * a.width + a.width - o.y * a.width) (drop (o.y * a.width) o.frame) in
    let sums = at a.w.now in (
      c.row-samples.auto.line ∙ l.0,
      c.row-samples.auto.u ∙ l.1,
      c.row-samples.auto.v ∙ l.2,
      rows_on o.y (samples_of a.width a.bleed) l.3 (c.row-samples.ensures.1 ∙ ap (λ (m : ℕ). samples_of m a.bleed) (row_length l.4 t)),
      next_row_by l.4 (λ x p. mark_clamped (pixel a.strength (chroma_by sums 0 part a.bleed x) (chroma_by sums 1 part a.bleed x) p)) _ t
          (λ x p q. ap mark_clamped (same_pixel a.strength p (chroma_across l.4 t sums 0 a.bleed x) (chroma_across l.4 t sums 1 a.bleed x)))
          c.row-samples.ensures.0,
    )
