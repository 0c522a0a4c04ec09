-- `inspect::layout::bits_of` meets its contract: arm by arm, and no width is above 32. Assumes nothing.
use Prim.Native.Nat.{ℕ, ◌≤◌}
use mathlib.Core.Path.{◌≡◌, ◌∙◌}
use borrow.Author.Tests.{ne_eqb}
use lib.Dec.{lit≤}
use Rattle.inspect.specs.Layout.{Narrow, wide, widths_of}
use Rattle.inspect.specs.declared.layout.Widths.{Widths}
use Rattle.inspect.proofs.layout.bits_of.Goals as goal

narrow : {w : Widths} (a b c d : ℕ) → w ≡ wide a b c d → a ≤ 32 → b ≤ 32 → c ≤ 32 → d ≤ 32 → Narrow w
narrow a b c d made p q r s = rw made (record { first = p; second = q; third = r; fourth = s })

pub returns-in-1 : goal.returns-in-1
unfolding widths_of
returns-in-1 c = (rw c.in-1.is c.wide.ensures, narrow 32 8 0 0 c.wide.ensures (lit≤ tt) (lit≤ tt) (lit≤ tt) (lit≤ tt))

pub returns-in-2 : goal.returns-in-2
unfolding widths_of
returns-in-2 c = (rw c.in-2.is c.wide-in-2.ensures, narrow 8 32 8 0 c.wide-in-2.ensures (lit≤ tt) (lit≤ tt) (lit≤ tt) (lit≤ tt))

pub returns-in-3 : goal.returns-in-3
unfolding widths_of
returns-in-3 c = (rw c.in-3.is c.wide-in-3.ensures, narrow 32 32 32 0 c.wide-in-3.ensures (lit≤ tt) (lit≤ tt) (lit≤ tt) (lit≤ tt))

pub returns-in-4 : goal.returns-in-4
unfolding widths_of
returns-in-4 c = (rw c.in-4.is c.wide-in-4.ensures, narrow 32 8 0 0 c.wide-in-4.ensures (lit≤ tt) (lit≤ tt) (lit≤ tt) (lit≤ tt))

pub returns-in-5 : goal.returns-in-5
unfolding widths_of
returns-in-5 c = (rw c.in-5.is c.wide-in-5.ensures, narrow 3 32 0 0 c.wide-in-5.ensures (lit≤ tt) (lit≤ tt) (lit≤ tt) (lit≤ tt))

pub returns-in-7 : goal.returns-in-7
unfolding widths_of
returns-in-7 c = (rw c.in-7.is c.wide-in-7.ensures, narrow 32 32 32 32 c.wide-in-7.ensures (lit≤ tt) (lit≤ tt) (lit≤ tt) (lit≤ tt))

pub returns-in_default : goal.returns-in_default
unfolding widths_of
returns-in_default c = let r = c.in_default.in_default-own.rest in (
  c.wide-in_default.ensures ∙ simp (
    ne_eqb _ _ r.0.0.0.0.0.1,
    ne_eqb _ _ r.0.0.0.0.1,
    ne_eqb _ _ r.0.0.0.1,
    ne_eqb _ _ r.0.0.1,
    ne_eqb _ _ r.0.1,
    ne_eqb _ _ r.1,
  ),
  narrow 32 0 0 0 c.wide-in_default.ensures (lit≤ tt) (lit≤ tt) (lit≤ tt) (lit≤ tt),
)
