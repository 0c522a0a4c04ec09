-- `num::root::put` meets its contract. Assumes nothing.
use mathlib.Core.Path.{◌≡◌, sym, ap, ◌∙◌, subst}
use mathlib.Core.Bool.{not}
use Prim.Native.Nat.{◌≤◌, ◌<◌}
use borrow.Author.Tests.{ltb-true}
use lib.Dec.{T}
use lib.Ieee.{Float, binary32, to_bits, fits, is_nan}
use lib.Ieee.Bits.{of_bits-to_bits}
use Rattle.num.specs.Root.{root_of}
use Rattle.num.specs.Private.{operand}
use Rattle.num.proofs.Patterns.{no_nan}
use Rattle.num.specs.Const.{c0_0}
use Rattle.num.specs.Laws.Order.{lt-number_right}
use Rattle.num.proofs.RootOperand.{operand-is, operand_above, root_beyond, root_not-above}
use Rattle.num.proofs.root.put.Goals as goal
use Rattle.num.proofs.root.put.Goals.{else-x-via-then-x+else-b-lt2139095040, else-x-via-else-x}
use Rattle.num.proofs.root.put.Lts as lts
use Rattle.num.proofs.root.put.Reads as reads
use Rattle.num.proofs.root.put.Tie as tie

-- what owning an `f32` tells: the format holds it
held : (c : lts.Start tie.the-claims reads.Pre reads.Post) → T (fits binary32 c.args.x)
held c = subst T (sym c.well_formed.0.1) tt

pub float_to_bits-b : goal.float_to_bits-b
float_to_bits-b c = let x = c.args.x in
    subst (λ (y : Float). T (not (is_nan y))) (sym c.above_zero-b.ensures) (lt-number_right c0_0 (operand x) (operand_above x))

pub float_from_bits-r : goal.float_from_bits-r
float_from_bits-r c = no_nan _ c.requires.0

pub returns-then-b-lt2139095040 : goal.returns-then-b-lt2139095040
returns-then-b-lt2139095040 c = let x = c.args.x in
    let same : c.above_zero-b.result ≡ x = c.above_zero-b.ensures ∙ operand-is x c.if-x.true in
    c.requires.1 c.if-x.true
    (subst (λ (y : Float). to_bits binary32 y < 0x7f80_0000) same (ltb-true (to_bits binary32 c.above_zero-b.result) 0x7f80_0000 c.if-b-lt2139095040.true-raw))

pub returns-else-x : goal.returns-else-x
returns-else-x c =
    let x = c.args.x in
    let b = to_bits binary32 c.above_zero-b.result in
    elim c.else-x.branch [
      | else-x-via-then-x+else-b-lt2139095040 w ↦
          let same : c.above_zero-b.result ≡ x = c.above_zero-b.ensures ∙ operand-is x w.if-x.true in
          sym (root_beyond (to_bits binary32 x) (subst (λ (y : Float). 0x7f80_0000 ≤ to_bits binary32 y) same w.if-b-lt2139095040.false)) ∙ ap root_of (of_bits-to_bits binary32 x (held c.before.before))
      | else-x-via-else-x w ↦ sym (root_not-above x w.if-x.false)
    ]
