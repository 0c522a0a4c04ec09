-- `inspect::layout::end` meets its contract. Assumes nothing.
use native.Mathlib.Omega.{arith}
use Rattle.inspect.specs.Layout.{end_of}
use Rattle.inspect.proofs.layout.end.Goals as goal

pub returns : goal.returns
unfolding end_of
returns c = (simp c.bits_of-w.ensures.0, omega (arith, c.bits_of-w.ensures.1))
