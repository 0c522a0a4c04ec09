-- `inspect::layout::in_record` meets its contract: each test went as the definition's. Assumes nothing.
use borrow.Author.Tests.{lt-ltb, le-ltb}
use Rattle.inspect.specs.Layout.{in_record}
use Rattle.inspect.proofs.layout.in_record.Goals as goal

pub returns-then-at-p : goal.returns-then-at-p
unfolding in_record
returns-then-at-p c = simp (lt-ltb _ _ c.if-at-p.true)

pub returns-then-at-p-2 : goal.returns-then-at-p-2
unfolding in_record
returns-then-at-p-2 c = simp (le-ltb _ _ c.if-at-p.false, lt-ltb _ _ c.if-at-p-2.true)

pub setting_in-requires : goal.setting_in-requires
setting_in-requires c = c.bits_of.ensures.1

pub returns : goal.returns
unfolding in_record
returns c = simp (le-ltb _ _ c.if-at-p.false, le-ltb _ _ c.if-at-p-2.false, c.setting_in.ensures, c.bits_of.ensures.0)
