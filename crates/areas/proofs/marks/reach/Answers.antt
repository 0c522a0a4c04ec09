-- `areas::marks::reach` meets its contract: place after place. Assumes nothing.
use Prim.Native.Nat.{max}
use mathlib.Core.Path.{◌≡◌, sym, ap₂, ◌∙◌}
use native.Mathlib.Omega.{arith}
use Rattle.areas.specs.Private.{most_from}
use Rattle.areas.proofs.Marking.{most_none, most-next}
use Rattle.areas.proofs.Strips.{unchanged, change}
use Rattle.areas.proofs.marks.reach.Goals as goal

pub loop-x-init : goal.loop-x-init
loop-x-init c = (sym (most_none _ _ (omega arith)), unchanged _ _ _)

pub loop-x-preserved : goal.loop-x-preserved
loop-x-preserved c = let at = c.loop-x in
    let a = c.args in
    let new : c.max-far.result ≡ most_from a.from a.ends.now at.x =
    c.max-far.ensures ∙ ap₂ max at.invariant.0 (c.place.ensures ∙ at.invariant.1.rest at.x (omega arith))
    ∙ sym (most-next a.from a.ends.now at.x (omega arith)) in
    (new, change at.invariant.1 (omega arith) (omega (arith, at.invariant.1.kept)) new)
