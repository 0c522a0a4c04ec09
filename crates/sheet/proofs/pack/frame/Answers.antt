-- `sheet::pack::frame` meets its contract: its sides are looked at before its pixels, which are 1,024 at most. Assumes nothing.
use Prim.Native.Nat.{◌*◌, ◌≤◌}
use mathlib.Core.Bool.{false}
use mathlib.Core.Path.{◌≡◌, sym, ◌∙◌}
use native.Mathlib.Omega.{arith}
use Rattle.events.specs.Events.{outside}
use Rattle.sheet.proofs.Packing.{not_put, small_frame, put_frame}
use Rattle.sheet.proofs.pack.frame.Goals as goal
use Rattle.sheet.proofs.pack.frame.Lts as lts
use Rattle.sheet.proofs.pack.frame.Reads as reads
use Rattle.sheet.proofs.pack.frame.Tie as tie

-- once both sides were looked at, no side is bad
module _ (c : lts.Else3 tie.the-claims reads.Pre reads.Post) where
  abbrev high : lts.After-at2 tie.the-claims reads.Pre reads.Post
  high = c.before.before.before.before

  abbrev wide : lts.After-at tie.the-claims reads.Pre reads.Post
  wide = high.before

  abbrev start : lts.Start tie.the-claims reads.Pre reads.Post
  start = wide.before.before.before.before

  wide_in : outside wide.at-width.result ≡ false
  wide_in = sym c.outside.ensures ∙ c.if-outside.false

  high_in : outside high.at-height.result ≡ false
  high_in = sym c.outside-2.ensures ∙ c.if-outside-2.false

  few : high.at-height.result * wide.at-width.result ≤ 1024
  few = small_frame wide.at-width.result high.at-height.result wide_in high_in

pub returns-then-events-lt3 : goal.returns-then-events-lt3
returns-then-events-lt3 c = not_put 1 (omega arith) c.not_put.ensures

pub returns-then-outside : goal.returns-then-outside
returns-then-outside c = not_put 3 (omega arith) c.not_put-then-outside.ensures

pub returns-then-outside-2 : goal.returns-then-outside-2
returns-then-outside-2 c = not_put 3 (omega arith) c.not_put-then-outside-2.ensures

pub overflow_mul-count : goal.overflow_mul-count
overflow_mul-count c = omega (arith, few c.before)

pub overflow_mul-bytes : goal.overflow_mul-bytes
overflow_mul-bytes c = omega (arith, few c.before)

pub overflow_add-bytes : goal.overflow_add-bytes
overflow_add-bytes c = omega (arith, few c.before)

pub returns-then-events-bytes : goal.returns-then-events-bytes
returns-then-events-bytes c = not_put 1 (omega arith) c.not_put-then-events-bytes.ensures

pub overflow_mul-count-2 : goal.overflow_mul-count-2
overflow_mul-count-2 c = omega (arith, few c.before.before)

pub overflow_add-p-2 : goal.overflow_add-p-2
overflow_add-p-2 c = omega (arith, few c.before.before, c.requires.2)

pub overflow_add-p-3 : goal.overflow_add-p-3
overflow_add-p-3 c = omega (arith, few c.before.before, c.requires.2)

pub returns-then-sheet-p : goal.returns-then-sheet-p
returns-then-sheet-p c = not_put 6 (omega arith) c.not_put-then-sheet-p.ensures

pub returns : goal.returns
returns c = let p = c.requires in
    put_frame p.0 (omega (arith, c.if-sheet-p.false, c.frame-next.ensures.1, c.frame-next.auto.sheet)) (omega (arith, c.if-events-lt3.false)) p.1
    c.at-width.ensures.0 c.at-height.ensures.0 (wide_in c.before.before.before.before.before.before.before.before) (high_in c.before.before.before.before.before.before.before.before) c.if-events-bytes.false c.frame-next.ensures.1 c.frame-next.ensures.0
