-- `cabinet::enlarge::line` meets its contract: three words for each number. Assumes nothing.
use Prim.Native.Nat.{ℕ, ◌+◌, ◌*◌, ◌<◌}
use mathlib.Core.Path.{ap, ◌∙◌}
use native.Mathlib.Omega.{arith}
use lib.ListN.{length, get_or, set, length-set}
use Rattle.num.specs.Laws.Rewrite.{none, all}
use Rattle.cabinet.specs.Source.{shown_by}
use Rattle.cabinet.proofs.Sources.{tripled}
use Rattle.cabinet.proofs.enlarge.line.Goals as goal
use Rattle.cabinet.proofs.enlarge.line.Lts as lts
use Rattle.cabinet.proofs.enlarge.line.Reads as reads
use Rattle.cabinet.proofs.enlarge.line.Tie as tie

-- the places of a pixel lie within the line
module _ (c : lts.After-colour tie.the-claims reads.Pre reads.Post goal.the-invariant-loop-x goal.the-decreases-loop-x) where
  room : 3 * c.loop-x.x + 2 < length c.loop-x.out
  room =
      omega (arith, c.requires.0, c.loop-x.invariant.kept, c.loop-x-test.true)

pub loop-x-init : goal.loop-x-init
loop-x-init c = none _ _

pub colour-c-requires : goal.colour-c-requires
colour-c-requires c = c.requires.2

pub bounds-out-x : goal.bounds-out-x
bounds-out-x c = omega (arith, room c.before)

pub bounds-out-x-in-loop-x : goal.bounds-out-x-in-loop-x
bounds-out-x-in-loop-x c = omega (arith, room c.before, length-set c.loop-x.out (3 * c.loop-x.x) c.colour-c.result)

pub bounds-out-x-in-loop-x-2 : goal.bounds-out-x-in-loop-x-2
bounds-out-x-in-loop-x-2 c = omega (
  arith,
  room c.before,
  length-set c.loop-x.out (3 * c.loop-x.x) c.colour-c.result,
  length-set (set c.loop-x.out (3 * c.loop-x.x) c.colour-c.result) (3 * c.loop-x.x + 1) c.colour-c.result,
)

pub loop-x-preserved : goal.loop-x-preserved
loop-x-preserved c = tripled _ _ _ c.loop-x.x _ c.loop-x.invariant (room c.before)
    (λ k w h. c.colour-c.ensures ∙ ap (λ (i : ℕ). shown_by c.args.colours.now (get_or c.args.row.now i 0)) (omega (arith, h)))

pub shape_of-out : goal.shape_of-out
shape_of-out c = c.loop-x.invariant.kept

pub returns : goal.returns
returns c = all c.loop-x.invariant (omega (arith, c.loop-x.invariant.kept, c.requires.0, c.loop-x-test.false))
