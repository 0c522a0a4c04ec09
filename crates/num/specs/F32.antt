-- Binary32 steps as the definitions write them: the four operations rounded once, a whole number and a decimal as values. Definitions only.
use Rattle.std.specs.Prelude.{ℕ, ◌^◌, false, pos, Float}
use Rattle.std.specs.Float.{binary32}
use Rattle.std.specs.Float.Ieee.{round, add, sub, mul, div, of_int}

infixl 6 ◌⊕◌
abbrev pub ◌⊕◌ : Float → Float → Float
x ⊕ y = add binary32 x y

infixl 6 ◌⊖◌
abbrev pub ◌⊖◌ : Float → Float → Float
x ⊖ y = sub binary32 x y

infixl 7 ◌⊗◌
abbrev pub ◌⊗◌ : Float → Float → Float
x ⊗ y = mul binary32 x y

infixl 7 ◌⊘◌
abbrev pub ◌⊘◌ : Float → Float → Float
x ⊘ y = div binary32 x y

-- a whole number as a float
abbrev pub whole : ℕ → Float
whole n = of_int binary32 (pos n)

-- the binary32 nearest to n / 10 ^ k
unfoldable pub dec : ℕ → ℕ → Float
unfolding round
dec n k = round binary32 false n (10 ^ k)
