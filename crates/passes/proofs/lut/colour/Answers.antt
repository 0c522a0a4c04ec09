-- `passes::lut::colour` meets its contract. Assumes nothing.
use Rattle.std.proofs.Common.{sym, subst}
use Rattle.passes.specs as Text
use Rattle.passes.specs.Private.{OfWord}
use Rattle.passes.proofs.Thirds.{of_word}
use Rattle.passes.proofs.lut.colour.Goals as goal

pub transform-t-requires : goal.transform-t-requires
transform-t-requires c = subst OfWord (sym c.unit-c.ensures) (of_word c.args.p)

pub returns : goal.returns
unfolding Text.Lut.colour
returns c = cc
