-- `inspect::layout::setting_in` meets its contract: each test went as the definition's. Assumes nothing.
use borrow.Author.Tests.{lt-ltb, le-ltb}
use Rattle.inspect.specs.Layout.{setting_in}
use Rattle.inspect.proofs.layout.setting_in.Goals as goal

pub returns-then-bit-w : goal.returns-then-bit-w
unfolding setting_in
returns-then-bit-w c = simp (lt-ltb _ _ c.if-bit-w.true)

pub returns-then-bit-w-2 : goal.returns-then-bit-w-2
unfolding setting_in
returns-then-bit-w-2 c = simp (le-ltb _ _ c.if-bit-w.false, lt-ltb _ _ c.if-bit-w-2.true)

pub returns-then-bit-w-3 : goal.returns-then-bit-w-3
unfolding setting_in
returns-then-bit-w-3 c = simp (le-ltb _ _ c.if-bit-w.false, le-ltb _ _ c.if-bit-w-2.false, lt-ltb _ _ c.if-bit-w-3.true)

pub returns-else-bit-w-3 : goal.returns-else-bit-w-3
unfolding setting_in
returns-else-bit-w-3 c = simp (le-ltb _ _ c.if-bit-w.false, le-ltb _ _ c.if-bit-w-2.false, le-ltb _ _ c.if-bit-w-3.false)
