-- `areas::marks::mark_each` meets its contract: one rectangle after the other. Assumes nothing.
use mathlib.Core.Path.{ap, ◌∙◌}
use native.Mathlib.Omega.{arith}
use Rattle.areas.specs.Private.{part_of}
use Rattle.areas.specs.declared.area.Area.{Area}
use Rattle.areas.specs.declared.area.Part.{Part}
use Rattle.areas.proofs.Marking.{next-mark}
use Rattle.areas.proofs.Search.{placed_at, part_fits}
use Rattle.areas.proofs.marks.mark_each.Goals as goal

pub mark-requires : goal.mark-requires
mark-requires c = let pre = c.requires in
    let inside = placed_at pre.0 _ c.loop-k-test.true c.area_at.ensures.same in
    omega (arith, pre.1, c.loop-k.invariant.kept, ap (λ (p : Part). p.to) c.part_of.ensures, part_fits _ c.args.y inside)

pub loop-k-preserved : goal.loop-k-preserved
loop-k-preserved c =
    next-mark c.loop-k.invariant c.loop-k-test.true (c.part_of.ensures ∙ ap (λ (b : Area). part_of b c.args.y) c.area_at.ensures.same) c.mark.ensures
