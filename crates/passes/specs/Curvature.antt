-- Curvature: each word is read from a copy of the frame, at a place bent outwards; 0 where that place is outside.
-- A is the arithmetic (Arith.antt): binary32 in the product. Definitions only.
use Rattle.std.specs.Prelude.{ℕ, ◌-◌, Bool, cond, ◌||◌, List}
use Rattle.num.specs.Const.{c0_5, c1_0}
use Rattle.num.specs.Rewrite.{every}
use Rattle.passes.specs.Arith.{Arith}
use Rattle.passes.specs.Position.{position}
use Rattle.passes.specs.Rows.{placed}

module _ (A : Arith) where
  open A use {F, lit, whole, ◌⊕◌, ◌⊗◌, neg, round, cut, below, cell}

  infixl 6 ◌⊕◌
  infixl 7 ◌⊗◌
  -- s is not in -1..1
  unfoldable pub outside : F → Bool
  outside s = below s (neg (lit c1_0)) || below (lit c1_0) s

  -- the row or column of n that is nearest to s, by round and cut
  abbrev pub index_of : ℕ → F → ℕ
  index_of n s = cut (round ((s ⊕ lit c1_0) ⊗ lit c0_5 ⊗ whole (n - 1)))

  -- the word of the copy that is nearest to (sx, sy)
  unfoldable pub sample : ℕ → ℕ → List ℕ → F → F → ℕ
  sample w h copy sx sy = cond (outside sx || outside sy) 0 (cell w copy (index_of w sx) (index_of h sy))

  unfoldable pub bend : ℕ → ℕ → F → List ℕ → F → F → ℕ
  bend w h amount copy nx ny =
      let r2 = nx ⊗ nx ⊕ ny ⊗ ny in
      let distortion = lit c1_0 ⊕ amount ⊗ r2 in
      sample w h copy (nx ⊗ distortion) (ny ⊗ distortion)

  -- the word at column x and row y
  abbrev pub word_at : ℕ → ℕ → F → List ℕ → ℕ → ℕ → ℕ → ℕ
  word_at w h amount copy x y p = bend w h amount copy (position A w x) (position A h y)

  abbrev pub bent : ℕ → ℕ → F → List ℕ → List ℕ → List ℕ
  bent w h amount copy frame = every (placed w (word_at w h amount copy)) frame

  unfoldable pub curvature : ℕ → ℕ → F → List ℕ → List ℕ
  curvature w h amount frame = bent w h amount frame frame
