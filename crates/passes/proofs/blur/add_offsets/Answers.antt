-- `passes::blur::add_offsets` meets its contract: four offsets, or one. Assumes nothing.
use Rattle.std.proofs.Common.{length, ◌∙◌, arith}
use Rattle.passes.proofs.Counted.{line-one}
use Rattle.passes.proofs.Offsets.{offset-onward}
use Rattle.passes.proofs.blur.add_offsets.Goals as goal

pub returns : goal.returns
returns c = let a = c.args in
    let one = c.add_offset-samples.ensures in (
      omega arith,
      omega arith,
      one.0 ∙ offset-onward a.acc.now a.src.now a.radius a.k c.requires.0,
      one.1 ∙ line-one (length a.src.now) a.radius a.k,
    )
