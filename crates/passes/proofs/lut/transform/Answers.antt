-- `passes::lut::transform` meets its contract: an arm for each preset. Assumes nothing.
use Rattle.std.proofs.Common.{◌≡◌, ℕ, suc, ◌-◌, ◌≤◌, arith, rules}
use Rattle.passes.specs as Text
use Rattle.passes.proofs.lut.transform.Goals as goal

from_6 : (n : ℕ) → 6 ≤ n → n ≡ suc (suc (suc (suc (suc (suc (n - 6))))))
from_6 n h = omega arith

pub returns-in-0 : goal.returns-in-0
unfolding Text.Lut.transform
returns-in-0 c = rw c.in-0.is

pub returns-in-1 : goal.returns-in-1
unfolding Text.Lut.transform
returns-in-1 c = rw c.in-1.is

pub returns-in-2 : goal.returns-in-2
unfolding Text.Lut.transform
returns-in-2 c = rw c.in-2.is

pub returns-in-3 : goal.returns-in-3
unfolding Text.Lut.transform
returns-in-3 c = rw c.in-3.is (cc)

pub returns-in-4 : goal.returns-in-4
unfolding Text.Lut.transform
returns-in-4 c = rw c.in-4.is (cc)

pub returns-in-5 : goal.returns-in-5
unfolding Text.Lut.transform
returns-in-5 c = rw c.in-5.is (cc)

pub returns-in_default : goal.returns-in_default
unfolding Text.Lut.transform
returns-in_default c = rw (from_6 c.args.preset (omega arith)) (search rules)
