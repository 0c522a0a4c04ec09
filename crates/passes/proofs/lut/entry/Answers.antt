-- `passes::lut::entry` meets its contract: an arm for each channel. Assumes nothing.
use Rattle.std.proofs.Common.{◌≡◌, ℕ, suc, ◌-◌, ◌≤◌, arith}
use Rattle.passes.specs.Private.{entry}
use Rattle.passes.proofs.lut.entry.Goals as goal

from_2 : (n : ℕ) → 2 ≤ n → n ≡ suc (suc (n - 2))
from_2 n h = omega arith

pub returns-in-0 : goal.returns-in-0
unfolding entry
returns-in-0 c = rw c.in-0.is (omega arith)

pub returns-in-1 : goal.returns-in-1
unfolding entry
returns-in-1 c = rw c.in-1.is (omega arith)

pub returns-in_default : goal.returns-in_default
unfolding entry
returns-in_default c = rw (from_2 c.args.which (omega arith)) (omega arith)
