-- `passes::ntsc::row` meets its contract: each component in turn, then the words. Assumes nothing.
use Rattle.std.proofs.Common.{ℕ, length, get_or, ap, ◌∙◌}
use lib.Ieee.{Float}
use Rattle.passes.specs.Plain.Pixel.{unpack}
use Rattle.num.specs.Laws.Rewrite.{rewrite_ext}
use Rattle.passes.specs.Plain.Ntsc.{chroma, pixel}
use Rattle.passes.specs.Samples.{samples}
use Rattle.passes.specs.Private.{at, chroma_by, mark_clamped}
use Rattle.passes.proofs.Offsets.{blur_of}
use Rattle.passes.proofs.Chroma.{same_pixel}
use Rattle.passes.proofs.ntsc.row.Goals as goal

pub returns : goal.returns
returns c = let a = c.args in
    let r = a.row.now in
    let sums : ℕ → Float = at a.w.now in
    let part : ℕ → ℕ → Float = λ which i. chroma which (unpack (get_or r i 0)) in (
      c.blend_row.ensures
          ∙ rewrite_ext (length r) (λ x p. mark_clamped (pixel a.strength (at c.blur_line-samples.new.out x) (at c.blur_line.new.out x) p))
          (λ x p. mark_clamped (pixel a.strength (chroma_by sums 0 r a.bleed x) (chroma_by sums 1 r a.bleed x) p)) r
          (λ x v l. ap mark_clamped (same_pixel a.strength v
          (blur_of sums (part 0) (length r) a.bleed a.line.now c.chroma_line.new.out c.requires.1 c.chroma_line.ensures
          a.u.now c.blur_line-samples.new.out c.requires.2 c.blur_line-samples.ensures.0 x l)
          (blur_of sums (part 1) (length r) a.bleed c.chroma_line.new.out c.chroma_line-2.new.out (c.chroma_line.auto.out ∙ c.requires.1) c.chroma_line-2.ensures
          a.v.now c.blur_line.new.out c.requires.3 c.blur_line.ensures.0 x l))),
      c.blur_line-samples.ensures.1 ∙ ap (λ (n : ℕ). samples n a.bleed) (c.chroma_line.auto.out ∙ c.requires.1),
    )
