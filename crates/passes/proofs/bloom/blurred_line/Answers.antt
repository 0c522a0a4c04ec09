-- `passes::bloom::blurred_line` meets its contract. Assumes nothing.
use Rattle.std.proofs.Common.{ℕ, length, get_or, ap, ◌∙◌}
use Rattle.passes.specs.Plain.Bloom.{bright_of}
use Rattle.passes.specs.Samples.{samples}
use Rattle.passes.specs.Private.{at}
use Rattle.passes.proofs.Offsets.{blur_fill}
use Rattle.passes.proofs.bloom.blurred_line.Goals as goal

pub returns : goal.returns
returns c = let a = c.args in
    let blurred = c.blur_line.ensures in (
      blurred.0
          ∙ blur_fill (at a.w.now) (λ i. bright_of a.threshold a.which (get_or a.row.now i 0)) (length a.row.now) a.radius a.line.now c.bright_line.new.out
          c.requires.2 c.bright_line.ensures a.out.now,
      blurred.1 ∙ ap (λ (n : ℕ). samples n a.radius) (c.bright_line.auto.out ∙ c.requires.2),
    )
