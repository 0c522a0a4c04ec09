-- `inspect::nearest::draw` meets its contract: each doubling draws a bit. Assumes nothing.
use Prim.Native.Nat.{◌-◌}
use Rattle.inspect.specs.Private.{Drawn}
use Rattle.inspect.proofs.nearest.draw.Given as goal

abbrev pub invariant-loop-a : goal.invariant-loop-a
invariant-loop-a l = Drawn l.whole l.initial.digits l.a l.k l.digits

abbrev pub decreases-loop-a : goal.decreases-loop-a
decreases-loop-a l = 149 - l.k
