-- `inspect::extent::read` meets its contract: byte after byte. Assumes nothing.
use Prim.Native.Nat.{◌≤◌}
use mathlib.Core.Path.{◌≡◌}
use lib.ListN.{drop}
use Rattle.std.specs.Prelude.{Some}
use Rattle.inspect.specs.Extent.{unread, read_of}
use Rattle.inspect.specs.Private.{present}
use Rattle.inspect.proofs.extent.read.Given as goal

abbrev pub invariant-loop-b : goal.invariant-loop-b
invariant-loop-b l = (read_of (Some l.r) (drop l.b-index l.text) ≡ read_of (Some unread) l.text) × (present l.r ≤ 10249)
