-- `passes::ntsc::apply` meets its contract: local lines are lent up to the width, one of them with the sums of weights. Assumes nothing.
use Rattle.std.proofs.Common.{ℕ, take, ap, ◌∙◌, arith}
use lib.Ieee.{Float}
use Rattle.passes.specs as Text
use Rattle.passes.specs.Rows.{placed}
use Rattle.passes.specs.Laws.Rows.{placed_ext}
use Rattle.passes.specs.Plain.Ntsc.{colour_at, sample}
use Rattle.passes.proofs.Offsets.{weight-at, blur_by_lem}
use Rattle.passes.specs.Private.{at, ntsc_by, mark_clamped}
use Rattle.passes.specs.declared.pixel.Rgb.{Rgb}
use Rattle.passes.proofs.Chroma.{same_pixel}
use Rattle.passes.proofs.Collected.{collected_clamped}
use Rattle.passes.proofs.Counted.{rows_few}
use Rattle.passes.proofs.ntsc.apply.Goals as goal

pub overflow_cast-result : goal.overflow_cast-result
overflow_cast-result c = let few = rows_few c.args.height c.args.width c.args.bleed c.requires.fact_1.high c.requires.fact_1.wide c.requires.fact_2 c.rows-samples.ensures.1 in
    omega (arith, few)

pub returns : goal.returns
unfolding Text.Ntsc.ntsc Text.Samples.ntsc_samples
returns c = let a = c.args in
    let sums : ℕ → Float = at (take a.width c.weight_line-w.result) in
    let colours : ℕ → ℕ → ℕ → Rgb = colour_at a.width a.strength a.bleed a.frame.now in (
      collected_clamped (placed a.width colours) _ _
          (c.rows-samples.ensures.0
          ∙ placed_ext a.width a.height a.frame.now (λ x y p. mark_clamped (ntsc_by sums a.width a.strength a.bleed a.frame.now x y p))
          (λ x y p. mark_clamped (colours x y p)) c.requires.fact_1.area
          (λ x y p l m.
          let e = weight-at c.weight_line-w.result a.width a.bleed x c.weight_line-w.ensures l in
          ap mark_clamped (same_pixel a.strength p
          (blur_by_lem sums (λ i. sample 0 a.frame.now a.width i y) a.width a.bleed x e)
          (blur_by_lem sums (λ i. sample 1 a.frame.now a.width i y) a.width a.bleed x e))))
          c.collect-clipped.ensures,
      c.rows-samples.ensures.1,
    )
