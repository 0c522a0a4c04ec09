-- The centre-weighted blur of NTSC and bloom along a line of n samples, in the order of the Rust's steps. The offsets
-- -radius .. radius are numbered k = 0 .. 2 * radius: offset k of the sample x is the sample x + k - radius.
-- A is the arithmetic (Arith.antt): binary32 in the product. Definitions only.
use Rattle.std.specs.Prelude.{ℕ, zero, suc, ◌+◌, ◌-◌, ◌*◌, Bool, true, false, cond, ◌&&◌, nat_le, nat_lt}
use Rattle.num.specs.Const.{c0_0, c1_0}
use Rattle.passes.specs.Arith.{Arith}

-- how far offset k is from the centre
abbrev pub distance : ℕ → ℕ → ℕ
distance radius k = (radius - k) + (k - radius)

-- whether offset k of x is one of the n samples
abbrev pub inside : ℕ → ℕ → ℕ → ℕ → Bool
inside n radius x k = nat_le radius (x + k) && nat_lt (x + k - radius) n

module _ (A : Arith) where
  open A use {F, lit, whole, ◌⊕◌, ◌⊖◌, ◌⊗◌, ◌⊘◌, below}

  infixl 6 ◌⊕◌
  infixl 6 ◌⊖◌
  infixl 7 ◌⊗◌
  infixl 7 ◌⊘◌
  unfoldable pub weight : ℕ → ℕ → F
  weight radius d = lit c1_0 ⊖ whole d ⊘ (whole radius ⊕ lit c1_0)

  -- a sample inside is added, one outside is skipped
  abbrev pub taken : Bool → F → F → F
  taken true sum v = sum ⊕ v
  taken false sum v = sum

  -- offset k of x: `term i w` is added for its sample i and its weight w
  abbrev pub step : (ℕ → F → F) → ℕ → ℕ → ℕ → ℕ → F → F
  step term n radius x k sum =
      taken (inside n radius x k) sum (term (x + k - radius) (weight radius (distance radius k)))

  -- the sum from 0.0 over the first k offsets of x, in ascending order
  unfoldable pub total : (ℕ → F → F) → ℕ → ℕ → ℕ → ℕ → F
  total term n radius x zero = lit c0_0
  total term n radius x (suc k) = step term n radius x k (total term n radius x k)

  -- over all offsets: the sum of the weighted samples, and that of the weights
  abbrev pub weighted : (ℕ → F) → ℕ → ℕ → ℕ → F
  weighted sample n radius x = total (λ i w. sample i ⊗ w) n radius x (2 * radius + 1)

  abbrev pub weight_sum : ℕ → ℕ → ℕ → F
  weight_sum n radius x = total (λ i w. w) n radius x (2 * radius + 1)

  -- sum / weight where the weight is above 0, else 0
  abbrev pub quotient : F → F → F
  quotient sum w = cond (below (lit c0_0) w) (sum ⊘ w) (lit c0_0)

  -- the blurred sample at x
  abbrev pub blur_at : (ℕ → F) → ℕ → ℕ → ℕ → F
  blur_at sample n radius x = quotient (weighted sample n radius x) (weight_sum n radius x)

  -- samples by column and row, blurred along columns of h
  abbrev pub down : ℕ → ℕ → (ℕ → ℕ → F) → ℕ → ℕ → F
  down h radius sample x y = blur_at (λ i. sample x i) h radius y
