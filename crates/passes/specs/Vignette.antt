-- Vignette: each word is dimmed by its distance from the middle (width / 2, height / 2).
-- A is the arithmetic (Arith.antt): binary32 in the product. Definitions only.
use Rattle.std.specs.Prelude.{ℕ, List}
use Rattle.num.specs.Const.{c1_0, c2_0}
use Rattle.num.specs.Rewrite.{every}
use Rattle.passes.specs.Arith.{Arith}
use Rattle.passes.specs.Pixel.{dim}
use Rattle.passes.specs.Rows.{placed}

module _ (A : Arith) where
  open A use {F, lit, whole, ◌⊕◌, ◌⊖◌, ◌⊗◌, ◌⊘◌, least, root}

  infixl 6 ◌⊕◌
  infixl 6 ◌⊖◌
  infixl 7 ◌⊗◌
  infixl 7 ◌⊘◌
  -- how far k is from the middle of n, in halves of n, squared
  unfoldable pub offset_squared : ℕ → ℕ → F
  offset_squared n k =
      let c = whole n ⊘ lit c2_0 in
      let d = (whole k ⊖ c) ⊘ c in
      d ⊗ d

  unfoldable pub factor : F → F → F
  factor strength distance = lit c1_0 ⊖ least (distance ⊗ strength) (lit c1_0)

  -- the factor at column x and row y
  abbrev pub factor_at : ℕ → ℕ → F → ℕ → ℕ → F
  factor_at w h strength x y =
      let distance = root (offset_squared w x ⊕ offset_squared h y) in
      factor strength distance

  unfoldable pub vignette : ℕ → ℕ → F → List ℕ → List ℕ
  vignette w h strength frame = every (placed w (λ x y. dim A (factor_at w h strength x y))) frame
