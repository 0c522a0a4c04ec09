-- `passes::blur::add_rows` meets its contract: four offsets, or one. Assumes nothing.
use Rattle.std.proofs.Common.{◌+◌, sym, ◌∙◌, arith, ltb-true, leb-true}
use Rattle.passes.proofs.Counted.{all_inside, insides-one}
use Rattle.passes.proofs.Offsets.{row_onward}
use Rattle.passes.proofs.blur.add_rows.Goals as goal

pub returns-then-y-k : goal.returns-then-y-k
returns-then-y-k c = let a = c.args in
    let left = leb-true a.radius (a.y + a.k) c.if-radius-y.true-raw in
    let right = ltb-true (a.y + a.k + 3) (a.height + a.radius) c.if-y-k.true-raw in (
      omega arith,
      omega arith,
      c.add_four_rows.ensures,
      sym (all_inside a.height a.radius a.k 4 a.y left (omega (arith, right))),
    )

pub returns : goal.returns
returns c = let a = c.args in
    let one = c.add_row-samples.ensures in (
      omega arith,
      omega arith,
      one.0 ∙ row_onward a.acc.now a.plane.now a.height a.radius a.y a.k,
      one.1 ∙ sym (insides-one a.height a.radius a.k a.y),
    )
