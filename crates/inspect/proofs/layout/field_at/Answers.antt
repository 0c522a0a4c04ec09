-- `inspect::layout::field_at` meets its contract: record by record, until one holds the bit. Assumes nothing.
use mathlib.Core.Path.{sym, ◌∙◌}
use borrow.Author.Tests.{lt-ltb, le-ltb}
use Rattle.inspect.specs.Layout.{field_of}
use Rattle.inspect.proofs.Walking.{walked_none, walked_found, walked_more, walked_all}
use Rattle.inspect.proofs.layout.field_at.Goals as goal

pub returns-then-at-lt4 : goal.returns-then-at-lt4
unfolding field_of
returns-then-at-lt4 c = simp (lt-ltb _ _ c.if-at-lt4.true)

pub returns-then-at-lt8 : goal.returns-then-at-lt8
unfolding field_of
returns-then-at-lt8 c = simp (le-ltb _ _ c.if-at-lt4.false, lt-ltb _ _ c.if-at-lt8.true)

pub loop-i-init : goal.loop-i-init
loop-i-init c = walked_none _ _ _ c.if-at-lt8.false

pub returns-then-at-next : goal.returns-then-at-next
unfolding field_of
returns-then-at-next c = simp (le-ltb _ _ c.if-at-lt4.false, le-ltb _ _ c.if-at-lt8.false, sym c.nibble-n.ensures)
    (c.in_record.ensures ∙ walked_found _ _ c.loop-i.invariant c.loop-i-test.true c.nibble-kind.ensures c.end-next.ensures.0 c.if-at-next.true)

pub loop-i-preserved : goal.loop-i-preserved
loop-i-preserved c = walked_more _ _ c.loop-i.invariant c.loop-i-test.true c.nibble-kind.ensures c.end-next.ensures.0 c.end-next.ensures.1 c.if-at-next.false

pub returns : goal.returns
unfolding field_of
returns c = simp (le-ltb _ _ c.if-at-lt4.false, le-ltb _ _ c.if-at-lt8.false, sym c.nibble-n.ensures)
    (walked_all c.loop-i.invariant c.loop-i-test.false)
