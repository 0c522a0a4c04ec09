-- `passes::ntsc::chroma` meets its contract: an arm for each component. Assumes nothing.
use Rattle.std.proofs.Common.{◌≡◌, ℕ, suc, ◌-◌, ◌≤◌, arith}
use Rattle.passes.specs as Text
use Rattle.passes.proofs.ntsc.chroma.Goals as goal

from_1 : (n : ℕ) → 1 ≤ n → n ≡ suc (n - 1)
from_1 n h = omega arith

pub returns-in-0 : goal.returns-in-0
unfolding Text.Ntsc.chroma
returns-in-0 c = rw c.in-0.is

pub returns-in_default : goal.returns-in_default
unfolding Text.Ntsc.chroma
returns-in_default c = rw (from_1 c.args.which (omega arith))
