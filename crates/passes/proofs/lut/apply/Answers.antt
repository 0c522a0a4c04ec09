-- `passes::lut::apply` meets its contract. Assumes nothing.
use Rattle.passes.specs as Text
use Rattle.passes.specs.Plain.Lut.{colour}
use Rattle.passes.proofs.Collected.{collected_unit}
use Rattle.passes.proofs.lut.apply.Goals as goal

pub returns : goal.returns
unfolding Text.Lut.lut
returns c = let a = c.args in
    collected_unit (λ i. colour a.preset a.strength) _ _ c.paint.ensures c.collect.ensures
