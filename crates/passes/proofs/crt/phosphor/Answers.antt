-- `passes::crt::phosphor` meets its contract: an arm for each column. Assumes nothing.
use Rattle.std.proofs.Common.{◌≡◌, ℕ, suc, ◌-◌, ◌≤◌, arith}
use Rattle.passes.specs as Text
use Rattle.passes.proofs.crt.phosphor.Goals as goal

from_2 : (n : ℕ) → 2 ≤ n → n ≡ suc (suc (n - 2))
from_2 n h = omega arith

pub returns-in-0 : goal.returns-in-0
unfolding Text.Crt.phosphor
returns-in-0 c = rw c.in-0.is

pub returns-in-1 : goal.returns-in-1
unfolding Text.Crt.phosphor
returns-in-1 c = rw c.in-1.is

pub returns-in_default : goal.returns-in_default
unfolding Text.Crt.phosphor
returns-in_default c = rw (from_2 c.args.column (omega arith))
