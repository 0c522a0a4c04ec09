-- `inspect::decimal::units` meets its contract: m * 2 ^ e units, as a whole number or as n * 5 ^ p / 10 ^ p. Assumes nothing.
use Prim.Native.Nat.{ℕ, ◌*◌, ◌%◌, ◌^◌}
use mathlib.Core.Path.{ap, sym, ◌∙◌}
use native.Mathlib.Omega.{arith}
use Rattle.inspect.proofs.Powers.{above, below, high_room, low_room, odd_fives}
use Rattle.inspect.proofs.decimal.units.Goals as goal

pub spell-requires : goal.spell-requires
spell-requires c = c.requires.0

pub scale-requires : goal.scale-requires
scale-requires c = (c.spell.ensures.0, omega arith, omega arith, high_room _ _ _ c.spell.ensures.1 c.requires.1 c.requires.2)

pub shape_of-digits-then-e-gt149 : goal.shape_of-digits-then-e-gt149
shape_of-digits-then-e-gt149 c = c.scale.ensures.0.long ∙ sym c.requires.0

pub returns-then-e-gt149 : goal.returns-then-e-gt149
returns-then-e-gt149 c = record {
  digits = c.scale.ensures.0;
  few = omega arith;
  size = above _ _ _ _ c.if-e-gt149.true c.spell.ensures.1 c.scale.ensures.1;
  odd = λ h. absurd (omega arith);
}

pub spell-requires-2 : goal.spell-requires-2
spell-requires-2 c = c.requires.0

pub scale-requires-2 : goal.scale-requires-2
scale-requires-2 c = (c.spell-2.ensures.0, omega arith, omega arith, low_room _ _ _ _ c.spell-2.ensures.1 c.reduced-n.ensures.1 c.requires.1 (omega (arith, c.reduced-n.ensures.0)))

pub shape_of-digits : goal.shape_of-digits
shape_of-digits c = c.scale-2.ensures.0.long ∙ sym c.requires.0

pub returns : goal.returns
returns c = record {
  digits = c.scale-2.ensures.0;
  few = omega (arith, c.reduced-n.ensures.0);
  size = below _ _ _ _ _ _ c.if-e-gt149.false c.reduced-n.ensures.2 c.spell-2.ensures.1 c.scale-2.ensures.1;
  odd = λ h. ap (λ (k : ℕ). k % 2) (c.scale-2.ensures.1 ∙ ap (λ (k : ℕ). k * 5 ^ c.reduced-n.result.p) c.spell-2.ensures.1) ∙ odd_fives _ _ (c.reduced-n.ensures.3 h);
}
