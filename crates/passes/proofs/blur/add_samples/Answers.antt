-- `passes::blur::add_samples` meets its contract: one offset after another. Assumes nothing.
use Rattle.std.proofs.Common.{length}
use Rattle.num.specs.F32.{◌⊗◌}
use Rattle.passes.specs.Private.{at}
use Rattle.passes.proofs.Counted.{insides-four}
use Rattle.passes.proofs.Offsets.{onward-four}
use Rattle.passes.proofs.blur.add_samples.Goals as goal

pub returns : goal.returns
returns c = let a = c.args in
    let n = length a.src.now in
    let one = c.add_sample-one.ensures in
    let two = c.add_sample-two.ensures in
    let three = c.add_sample-three.ensures in
    let four = c.add_sample.ensures in (
      onward-four (λ i w. at a.src.now i ⊗ w) n a.radius a.x a.k a.sum one.0 two.0 three.0 four.0,
      insides-four n a.radius a.k a.x one.1 two.1 three.1 four.1,
    )
