-- `replay::adler::adler` meets its contract: the sums of the first i bytes. Assumes nothing.
use Prim.Native.Nat.{◌+◌, ◌*◌}
use mathlib.Core.Path.{ap}
use native.Mathlib.Omega.{arith}
use Rattle.passes.specs.Laws.Fold.{none, more, all}
use Rattle.replay.specs.Adler.{adler_of}
use Rattle.replay.specs.declared.adler.Sums.{Sums}
use Rattle.replay.proofs.adler.adler.Goals as goal

pub loop-byte-init : goal.loop-byte-init
loop-byte-init c = record { so_far = none _ _ _; small_a = omega arith; small_b = omega arith }

pub loop-byte-preserved : goal.loop-byte-preserved
loop-byte-preserved c = let e = c.add-s.ensures in
    record { so_far = more c.loop-byte.invariant.so_far 0 c.loop-byte-test.true e.0; small_a = e.1; small_b = e.2 }

pub returns : goal.returns
unfolding adler_of
returns c = ap (λ (s : Sums). s.b * 65536 + s.a) (all c.loop-byte.invariant.so_far c.loop-byte-test.false)
