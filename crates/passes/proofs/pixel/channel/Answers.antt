-- `passes::pixel::channel` meets its contract: an arm for each channel. Assumes nothing.
use Rattle.std.proofs.Common.{◌≡◌, ℕ, suc, ◌-◌, ◌≤◌, arith}
use Rattle.passes.specs as Text
use Rattle.passes.proofs.pixel.channel.Goals as goal

from_2 : (n : ℕ) → 2 ≤ n → n ≡ suc (suc (n - 2))
from_2 n h = omega arith

pub returns-in-0 : goal.returns-in-0
unfolding Text.Pixel.channel
returns-in-0 c = rw c.in-0.is

pub returns-in-1 : goal.returns-in-1
unfolding Text.Pixel.channel
returns-in-1 c = rw c.in-1.is

pub returns-in_default : goal.returns-in_default
unfolding Text.Pixel.channel
returns-in_default c = rw (from_2 c.args.which (omega arith))
