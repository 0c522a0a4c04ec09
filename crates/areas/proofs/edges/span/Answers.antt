-- `areas::edges::span` meets its contract: one rectangle after the other. Assumes nothing.
use native.Mathlib.Omega.{arith}
use Rattle.areas.proofs.Search.{placed_at, next_span, spanned}
use Rattle.areas.proofs.edges.span.Goals as goal

pub loop-k-preserved : goal.loop-k-preserved
loop-k-preserved c = let inside = placed_at c.requires.0 _ c.loop-k-test.true c.area_at.ensures.same in
    next_span c.loop-k.invariant c.area_at.ensures.same inside c.part_of-p.ensures c.begin.ensures c.min-from.ensures c.max-to.ensures

pub returns : goal.returns
returns c = spanned c.loop-k.invariant (omega arith) c.min.ensures
