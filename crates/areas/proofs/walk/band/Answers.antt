-- `areas::walk::band` meets its contract: marked, read, summed and shared out. Assumes nothing.
use native.Mathlib.Omega.{arith}
use Rattle.areas.proofs.Parts.{shareable, banded}
use Rattle.areas.proofs.Search.{placed_in, spans_in}
use Rattle.areas.proofs.walk.band.Goals as goal

pub marks-requires : goal.marks-requires
marks-requires c = let pre = c.requires in
    (placed_in pre.0.placed pre.0.narrow (omega arith), spans_in c.span-s.ensures pre.0.narrow, pre.1.for_ends)

pub share-requires : goal.share-requires
share-requires c = let pre = c.requires in
    shareable pre.0 c.span-s.ensures c.marks.ensures c.add_runs-words.ensures c.running.ensures

pub returns : goal.returns
returns c = let pre = c.requires in
    banded pre.0 c.span-s.ensures c.marks.ensures c.add_runs-words.ensures c.running.ensures c.share.ensures
