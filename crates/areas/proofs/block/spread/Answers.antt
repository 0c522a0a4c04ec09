-- `areas::block::spread` meets its contract. Assumes nothing.
use mathlib.Core.Path.{refl}
use Rattle.areas.specs.Private.{spread_of}
use Rattle.areas.proofs.Spread.{spread_small}
use Rattle.areas.proofs.block.spread.Goals as goal

pub returns : goal.returns
unfolding spread_of
returns c = (refl, spread_small _)
