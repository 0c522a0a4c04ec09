-- `areas::block::add_runs` meets its contract: run after run. Assumes nothing.
use Prim.Native.Nat.{ℕ, ◌+◌, ◌<◌, ◌≤◌}
use mathlib.Core.Path.{◌≡◌, subst}
use native.Mathlib.Omega.{arith}
use borrow.Author.Tests.{ltb-true}
use lib.ListN.{get_or}
use Rattle.areas.specs.Private.{InPicture, SummedTo}
use Rattle.areas.proofs.Runs.{none_read, read-gap, read-run, words-few}
use Rattle.areas.proofs.block.add_runs.Goals as goal
use Rattle.areas.proofs.block.add_runs.Lts as lts
use Rattle.areas.proofs.block.add_runs.Reads as reads
use Rattle.areas.proofs.block.add_runs.Tie as tie

-- where the run ends: past its start, and in the part
module _ (c : lts.After-place tie.the-claims reads.Pre reads.Post goal.the-invariant-loop-x goal.the-decreases-loop-x) where
  past : c.loop-x.x < c.place-end.result
  past =
      let at = c.loop-x in
      let ends = c.args.ends.now in
      omega (arith, c.place-end.ensures, ltb-true at.x (get_or ends at.x 0) (at.invariant.2 c.loop-x-test.true))

  inside : let a = c.args in c.place-end.result ≤ a.s.to
  inside =
      let at = c.loop-x in
      let pre = c.requires in
      omega (arith, c.place-end.ensures, pre.1.within at.x at.invariant.0 c.loop-x-test.true)

  run : let a = c.args in
      InPicture a.picture.now a.b c.loop-x.x c.place-end.result
  run =
      let pre = c.requires.0 in
      record { along = omega (arith, past); across = omega (arith, inside, pre.across); narrow = pre.narrow; low = pre.low; full = pre.full }

-- the run is read
read : (c : lts.After-add_up tie.the-claims reads.Pre reads.Post goal.the-invariant-loop-x goal.the-decreases-loop-x) → let a = c.args in
    SummedTo a.picture.now a.b a.s a.ends.now c.place-end.result c.add_up-words.new.columns (c.loop-x.words + c.add_up-words.result)
read c =
    let at = c.loop-x in
    let pre = c.requires in
    read-run at.invariant.3 at.invariant.0 pre.1 c.loop-x-test.true c.place-end.ensures (run c.before.before).along c.add_up-words.ensures

pub run_start-x-requires : goal.run_start-x-requires
run_start-x-requires c = let pre = c.requires in
    (pre.0.along, omega (arith, pre.0.across, pre.0.narrow, pre.1.long))

pub loop-x-init : goal.loop-x-init
loop-x-init c = let found = c.run_start-x.ensures in
    (found.low, found.high, found.found, read-gap (none_read _ _ _ _ c.requires.2) (omega arith) found)

pub bounds-ends-x : goal.bounds-ends-x
bounds-ends-x c = let pre = c.requires in
    omega (arith, pre.0.across, pre.0.narrow, pre.1.long)

pub add_up-words-requires : goal.add_up-words-requires
add_up-words-requires c = (run c.before.before, c.loop-x.invariant.3.long)

pub overflow_add-words : goal.overflow_add-words
overflow_add-words c = let pre = c.requires in
    omega (arith, words-few (read c.before.before.before) (omega (arith, past c.before.before.before.before.before)) pre.0 (inside c.before.before.before.before.before))

pub run_start-x-requires-in-loop-x : goal.run_start-x-requires-in-loop-x
run_start-x-requires-in-loop-x c = let pre = c.requires in
    (inside c.before.before.before.before.before, omega (arith, pre.0.across, pre.0.narrow, pre.1.long))

pub loop-x-smaller : goal.loop-x-smaller
loop-x-smaller c = omega (arith, past c.before.before.before.before.before.before, c.run_start-x-in-loop-x.ensures.low, c.run_start-x-in-loop-x.ensures.high)

pub loop-x-preserved : goal.loop-x-preserved
loop-x-preserved c = let found = c.run_start-x-in-loop-x.ensures in
    let low : c.args.s.from ≤ c.place-end.result = omega (arith, past c.before.before.before.before.before.before) in
    (omega (arith, found.low), found.high, found.found, read-gap (read c.before.before.before.before) low found)

pub shape_of-columns : goal.shape_of-columns
shape_of-columns c = omega (arith, c.loop-x.invariant.3.long, c.requires.2)

pub returns : goal.returns
returns c = let a = c.args in
    let at = c.loop-x in
    let done : at.x ≡ a.s.to = omega (arith, at.invariant.1) in
    subst (λ (k : ℕ). SummedTo a.picture.now a.b a.s a.ends.now k at.columns at.words) done at.invariant.3
