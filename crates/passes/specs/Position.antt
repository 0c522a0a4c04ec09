-- Where a place lies along a side, as gradient and curvature have it.
-- A is the arithmetic (Arith.antt): binary32 in the product. Definitions only.
use Rattle.std.specs.Prelude.{ℕ, ◌-◌, max}
use Rattle.num.specs.Const.{c1_0, c2_0}
use Rattle.passes.specs.Arith.{Arith}

module _ (A : Arith) where
  open A use {F, lit, whole, ◌⊖◌, ◌⊗◌, ◌⊘◌}

  infixl 6 ◌⊖◌
  infixl 7 ◌⊗◌
  infixl 7 ◌⊘◌
  -- k among 0..n - 1, as -1..1
  unfoldable pub position : ℕ → ℕ → F
  position n k = whole k ⊘ whole (max (n - 1) 1) ⊗ lit c2_0 ⊖ lit c1_0
