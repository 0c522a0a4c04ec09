-- `num::root::ready` meets its contract: the parts that are scaled are those of x, where it is above 0 and finite. Assumes nothing.
use mathlib.Core.Path.{◌≡◌, sym, ap, ◌∙◌, subst}
use mathlib.Core.Bool.{not}
use Prim.Native.Nat.{ℕ, ◌+◌, ◌-◌, ◌*◌, ◌^◌, ◌<◌}
use native.Mathlib.Nat.{mul_assoc}
use native.Mathlib.Omega.{arith}
use lib.Dec.{T}
use lib.Pow.{pow-add}
use lib.Ieee.{Float, binary32, of_bits, to_bits, fits, is_nan}
use lib.Ieee.Bits.{of_bits-to_bits}
use Rattle.num.specs.Root.{nearest_root, root_of}
use Rattle.num.specs.Private.{operand}
use Rattle.num.specs.Const.{c0_0}
use Rattle.num.specs.Laws.Order.{lt-number_right}
use Rattle.num.proofs.RootOperand.{operand-is, operand_fits, operand_above, root_of_units, pattern-above}
use Rattle.num.proofs.root.ready.Goals as goal
use Rattle.num.proofs.root.ready.Lts as lts
use Rattle.num.proofs.root.ready.Reads as reads
use Rattle.num.proofs.root.ready.Tie as tie

-- what owning an `f32` tells: the format holds it
held : (c : lts.Start tie.the-claims reads.Pre reads.Post) → T (fits binary32 c.args.x)
held c = subst T (sym c.well_formed.0.1) tt

pub float_to_bits-above_zero : goal.float_to_bits-above_zero
float_to_bits-above_zero c = let x = c.args.x in
    subst (λ (y : Float). T (not (is_nan y))) (sym c.above_zero.ensures) (lt-number_right c0_0 (operand x) (operand_above x))

pub finite-requires : goal.finite-requires
finite-requires c = let x = c.args.x in
    subst (λ (y : Float). 0 < to_bits binary32 y) (sym c.above_zero.ensures) (pattern-above (operand x) (operand_fits x (held c.before)) (operand_above x))

pub returns : goal.returns
returns c = let x = c.args.x in
    let m = c.decode-v.result.m in
    let e = c.decode-v.result.e in
    let v = c.decode-v.ensures in
    let s = c.scale.ensures in
    let k : e - 1 + 149 ≡ e + 148 = omega arith in
    let units : m * 2 ^ (e - 1) * 2 ^ 149 ≡ m * 2 ^ (e + 148) = mul_assoc m (2 ^ (e - 1)) (2 ^ 149) ∙ ap (λ (y : ℕ). m * y) (sym (pow-add 2 (e - 1) 149)) ∙ ap (λ (y : ℕ). m * 2 ^ y) k in (
      s.0,
      (
        s.1.0,
        λ above below.
            let same : c.above_zero.result ≡ x = c.above_zero.ensures ∙ operand-is x above in
            let own : of_bits binary32 c.finite.result ≡ x =
            ap (of_bits binary32) (c.finite.ensures.2 (subst (λ (y : Float). to_bits binary32 y < 0x7f80_0000) (sym same) below) ∙ ap (to_bits binary32) same) ∙ of_bits-to_bits binary32 x (held c.before.before.before.before) in
            s.1.1 ∙ ap nearest_root (sym units) ∙ sym (root_of_units (of_bits binary32 c.finite.result) (m * 2 ^ (e - 1)) v.4) ∙ ap root_of own,
      ),
    )
