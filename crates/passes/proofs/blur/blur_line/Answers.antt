-- `passes::blur::blur_line` meets its contract: the sums, then their quotients. Assumes nothing.
use Rattle.std.proofs.Common.{length, ◌∙◌}
use Rattle.num.specs.Laws.Rewrite.{every_twice}
use Rattle.passes.specs.Plain.Blur.{weighted, quotient}
use Rattle.passes.specs.Private.{at}
use Rattle.passes.proofs.blur.blur_line.Goals as goal

pub returns : goal.returns
returns c = let s = c.args in
    let src = s.src.now in (
      c.divide.ensures
          ∙ every_twice (λ i v. weighted (at src) (length src) s.radius i) (λ i v. quotient v (at s.w.now i)) s.out.now c.accumulate-samples.new.acc c.accumulate-samples.ensures.0,
      c.accumulate-samples.ensures.1,
    )
