-- Scanlines: odd rows are dimmed, even rows stay as they are, top byte included.
-- A is the arithmetic (Arith.antt): binary32 in the product. Definitions only.
use Rattle.std.specs.Prelude.{ℕ, zero, suc, ◌%◌, List}
use Rattle.num.specs.Const.{c1_0}
use Rattle.num.specs.Rewrite.{every}
use Rattle.passes.specs.Arith.{Arith}
use Rattle.passes.specs.Pixel.{dim}
use Rattle.passes.specs.Rows.{placed}

module _ (A : Arith) where
  open A use {F, lit, ◌⊖◌}

  infixl 6 ◌⊖◌
  -- by the row modulo two
  unfoldable pub in_row : ℕ → F → ℕ → ℕ
  in_row zero strength p = p
  in_row (suc n) strength p = dim A (lit c1_0 ⊖ strength) p

  abbrev pub word_at : F → ℕ → ℕ → ℕ → ℕ
  word_at strength x y = in_row (y % 2) strength

  unfoldable pub scanlines : ℕ → F → List ℕ → List ℕ
  scanlines w strength frame = every (placed w (word_at strength)) frame
