-- `cabinet::enlarge::block` meets its contract: a line, and that line twice more. Assumes nothing.
use Prim.Native.Nat.{ℕ, ◌*◌, ◌/◌, ◌≤◌}
use mathlib.Core.Path.{◌≡◌, sym}
use native.Mathlib.Omega.{arith}
use lib.ListN.{length, get_or, take}
use lib.Seq.{length-take-le}
use Rattle.cabinet.specs.Source.{shown_by}
use Rattle.cabinet.proofs.Sources.{lines}
use Rattle.cabinet.proofs.enlarge.block.Goals as goal
use Rattle.cabinet.proofs.enlarge.block.Lts as lts
use Rattle.cabinet.proofs.enlarge.block.Reads as reads
use Rattle.cabinet.proofs.enlarge.block.Tie as tie

module _ (s : lts.Start tie.the-claims reads.Pre reads.Post) where
  abbrev wide : ℕ
  wide = 3 * length s.args.row.now

  fits : wide ≤ length s.args.out.now
  fits = omega (arith, s.requires.0)

  long : length (take wide s.args.out.now) ≡ wide
  long = length-take-le wide s.args.out.now fits

pub slice_bounds-line-end-2 : goal.slice_bounds-line-end-2
slice_bounds-line-end-2 c = sym (long c.before.before.before.before.before)

pub line-requires : goal.line-requires
line-requires c = (long c.before.before.before.before.before, c.requires.2, c.requires.3)

pub returns : goal.returns
returns c = lines (λ x. shown_by c.args.colours.now (get_or c.args.row.now (x / 3) 0)) (wide c.before.before.before.before.before.before.before.before.before.before.before.before) c.args.out.now _ _ (omega (arith, c.requires.1)) (fits c.before.before.before.before.before.before.before.before.before.before.before.before)
    c.line.ensures c.repeat.ensures
