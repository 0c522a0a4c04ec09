-- `num::root::scale` meets its contract, by `ScaledRoot.antt`. Assumes nothing.
use mathlib.Core.Path.{◌≡◌, sym, subst}
use Prim.Native.Nat.{ℕ, ◌+◌, ◌*◌, ◌/◌, ◌%◌, ◌^◌, ◌≤◌, ◌<◌}
use native.Mathlib.Omega.{arith}
use lib.Count.{count_leading_zeros}
use Rattle.num.specs.Root.{whole_root, nearest_root}
use Rattle.num.specs.Private.{Makes}
use Rattle.num.proofs.ScaledRoot.{power, shift, zeros_lo, zeros_hi, shift-lt, scaled_hi, scaled-is, whole_hi, bits_are}
use Rattle.num.proofs.root.scale.Goals as goal
use Rattle.num.proofs.root.scale.Lts as lts
use Rattle.num.proofs.root.scale.Reads as reads

-- `ScaledRoot.antt`, at the arguments
module _ (c : lts.Start reads.Pre reads.Post) where
  at_least : 8 ≤ count_leading_zeros 32 c.args.m
  at_least = let h = c.requires in zeros_lo c.args.m c.args.e h.0 h.1 h.2 h.3

  at_most : count_leading_zeros 32 c.args.m ≤ 31
  at_most = let h = c.requires in zeros_hi c.args.m c.args.e h.0 h.1 h.2 h.3

  abbrev digits : ℕ
  digits = c.args.m * 2 ^ shift c.args.m c.args.e

  exact : digits % 2 ^ 32 ≡ digits
  exact = let h = c.requires in scaled-is c.args.m c.args.e h.0 h.1 h.2 h.3

  makes : Makes (whole_root (digits * 2 ^ 25)) ((power c.args.m c.args.e / 2 + 50) * 2 ^ 23) (nearest_root (c.args.m * 2 ^ (c.args.e + 148)))
  makes =
      let h = c.requires in
      let small : whole_root (digits * 2 ^ 25) < 2 ^ 25 = whole_hi c.args.m c.args.e h.0 h.1 h.2 h.3 in
      (omega (arith, at_least), bits_are c.args.m c.args.e h.0 h.1 h.2 h.3)

  scaled : (digits < 2 ^ 25)
      × Makes (whole_root (digits * 2 ^ 25)) ((power c.args.m c.args.e / 2 + 50) * 2 ^ 23) (nearest_root (c.args.m * 2 ^ (c.args.e + 148)))
  scaled = let h = c.requires in (scaled_hi c.args.m c.args.e h.0 h.1 h.2 h.3, makes)

pub overflow_sub-p : goal.overflow_sub-p
overflow_sub-p c = omega (arith, at_most c)

pub overflow_sub-result : goal.overflow_sub-result
overflow_sub-result c = at_least c

pub overflow_add-result : goal.overflow_add-result
overflow_add-result c = omega (arith, at_most c)

pub overflow_shl-result : goal.overflow_shl-result
overflow_shl-result c = let h = c.requires in shift-lt c.args.m c.args.e h.0 h.1 h.2 h.3

pub returns : goal.returns
returns c = subst (λ (d : ℕ). (d < 2 ^ 25) × Makes (whole_root (d * 2 ^ 25)) ((power c.args.m c.args.e / 2 + 50) * 2 ^ 23) (nearest_root (c.args.m * 2 ^ (c.args.e + 148)))) (sym (exact c)) (scaled c)
