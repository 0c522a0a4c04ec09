-- `num::root::part` meets its contract: the lines have room. Assumes nothing.
use mathlib.Core.Path.{◌≡◌, sym}
use mathlib.Core.List.{List}
use Prim.Native.Nat.{ℕ, ◌≤◌}
use native.Mathlib.Omega.{arith}
use lib.ListN.{length, take}
use lib.Seq.{length-take-le}
use Rattle.num.proofs.root.part.Goals as goal
use Rattle.num.proofs.root.part.Lts as lts
use Rattle.num.proofs.root.part.Reads as reads
use Rattle.num.proofs.root.part.Tie as tie

-- the front of a line
front : (line : List ℕ) (n : ℕ) → length line ≡ 132 → n ≤ 132 → length (take n line) ≡ n
front line n e h = length-take-le n line (omega arith)

-- where the third line is lent: the front of each is as long as what was lent
module _ (c : lts.After-line3 tie.the-claims reads.Pre reads.Post) where
  abbrev count : ℕ
  count = length c.args.xs.now

  first : length (take count c.line-rest.result) ≡ count
  first = front _ count c.line-rest.ensures c.requires

  second : length (take count c.line-twice.result) ≡ count
  second = front _ count c.line-twice.ensures c.requires

  third : length (take count c.line-power.result) ≡ count
  third = front _ count c.line-power.ensures c.requires

pub slice_bounds-find-end : goal.slice_bounds-find-end
slice_bounds-find-end c = sym (first c.before.before)

pub slice_bounds-find-end-2 : goal.slice_bounds-find-end-2
slice_bounds-find-end-2 c = sym (second c.before.before.before)

pub slice_bounds-find-end-3 : goal.slice_bounds-find-end-3
slice_bounds-find-end-3 c = sym (third c.before.before.before.before)

pub find-requires : goal.find-requires
find-requires c = (first c.before.before.before.before, second c.before.before.before.before, third c.before.before.before.before)
