-- `passes::blur::add_offset` meets its contract: the places that take a sample are one part of `acc`, and their samples one part of `src`. Assumes nothing.
use Rattle.std.proofs.Common.{◌+◌, ◌-◌, length, ap, ◌∙◌, arith}
use Rattle.passes.specs.Plain.Blur.{weight}
use Rattle.passes.proofs.Offsets.{offset-some, offset_none}
use Rattle.passes.proofs.blur.add_offset.Goals as goal

pub returns-then-d-n : goal.returns-then-d-n
returns-then-d-n c = let to = c.saturating_sub-to in
    let from = c.saturating_sub-from in
    let n = length c.args.src.now in
    let w = c.weight-w in
    let count = n - (to.result + from.result) in (
      offset-some c.args.acc.now c.args.src.now c.args.radius c.args.k c.requires.0 c.add_scaled.new.acc
          to.result from.result (to.result + count - to.result) (from.result + count - from.result) w.result
          to.ensures from.ensures (omega arith) (omega arith)
          (w.ensures ∙ ap (weight c.args.radius) (omega arith))
          c.add_scaled.ensures.0,
      omega (arith, c.add_scaled.ensures.1),
    )

pub returns : goal.returns
returns c = (offset_none c.args.acc.now c.args.src.now c.args.radius c.args.k c.requires.0 (omega arith), omega arith)
