-- `passes::bloom::composite` meets its contract. Assumes nothing.
use Rattle.passes.specs as Text
use Rattle.passes.proofs.bloom.composite.Goals as goal

pub returns : goal.returns
unfolding Text.Bloom.composite
returns c = cc
