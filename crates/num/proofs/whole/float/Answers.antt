-- `num::whole::float` meets its contract: a number below 2 ^ 31 is the same as an `i32`. Assumes nothing.
use mathlib.Core.Path.{◌≡◌, sym, ap, subst}
use Prim.Native.Nat.{ℕ, ◌≤◌}
use native.Mathlib.Omega.{arith}
use lib.Dec.{T}
use lib.IntN.{ℤ, pos}
use lib.Ieee.{binary32, of_int, in_float}
use mir.Syntax.{w32}
use mir.Val.{to_z}
use mir.Facts.{to_z_pos}
use Rattle.num.specs.Laws.Bounds.{in_float_lem}
use Rattle.num.proofs.whole.float.Goals as goal

same : (n : ℕ) → n ≤ 8388608 → to_z w32 n ≡ pos n
same n l = to_z_pos w32 (omega arith)

pub int_to_float-result : goal.int_to_float-result
int_to_float-result c = let n = c.args.n in
    subst (λ (z : ℤ). T (in_float binary32 z)) (sym (same n c.requires)) (in_float_lem n (omega arith))

pub returns : goal.returns
returns c = ap (of_int binary32) (same c.args.n c.requires)
